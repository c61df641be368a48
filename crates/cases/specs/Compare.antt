-- Whether an answer is the one expected. Lists of cases are no part of the format: crates/cases/src/lib.rt says what they are.
use Rattle.std.specs.Prelude.{if◌then◌else◌, nat_eq, nat_le, List, ℕ, length, Result, Ok, Err}
use lib.Pointwise.{pointwise}
use Rattle.cases.specs.declared.replay.Fault.{Fault}

abbrev pub compare : List ℕ → List ℕ → Result (Unit {0}) Fault
compare answer expected = if pointwise nat_eq answer expected then Ok tt else Err Fault.Differs

-- A field of more bytes than a list of the table may have is not read.
abbrev pub within : List ℕ → ℕ → Result (Unit {0}) Fault
within field most = if nat_le (length field) most then Ok tt else Err Fault.Unreadable
