-- What stands in the input of a case, as crates/cases/src/lib.rt has it.
--
-- The number of some bytes in front, the low byte first, and what is after them; none where there are fewer bytes.
use Rattle.std.specs.Prelude.{if◌then◌else◌, nat_lt, List, ℕ, length, take, drop, Option, Some, None}
use Rattle.std.specs.Int.{Width, byte_len, from_le_bytes}

abbrev pub first : Width → List ℕ → Option (ℕ × List ℕ)
first w s = if nat_lt (length s) (byte_len w) then None else Some (from_le_bytes w (take (byte_len w) s), drop (byte_len w) s)
