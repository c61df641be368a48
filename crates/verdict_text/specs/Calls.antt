-- What is noted of the calls of a reader or of a writer, and which error is reported of them (docs/FORMAT.md, "The program verdicts").
use Rattle.std.specs.Prelude.{◌≡◌, ◌⊎◌, Bool, true, false, if◌then◌else◌, ℕ, ◌+◌, ◌-◌, ◌^◌, ◌≤◌, min, Some, None, Result, Ok, Err}
use Rattle.std.specs.declared.io.Error.{Error}
use Rattle.std.specs.declared.io.ErrorKind.{ErrorKind}
use Rattle.std.specs.IoError.{error_kind}
use Rattle.verdict_text.specs.declared.stream.Calls.{Calls}

-- Whether a signal interrupted the call that answered this.
abbrev pub is_interrupted : ErrorKind → Bool
is_interrupted ErrorKind.Interrupted = true
is_interrupted _ = false

abbrev pub is_interruption : Result ℕ Error → Bool
is_interruption (Ok n) = false
is_interruption (Err e) = is_interrupted (error_kind e)

-- Before the first call, and with one call more.
abbrev pub no_calls : Calls
no_calls = record { last = None; interrupted = 0 }

abbrev pub noted : Result ℕ Error → Calls → Calls
noted answer calls =
    record {
      last = Some answer;
      interrupted = if is_interruption answer then min (calls.interrupted + 1) (2 ^ 64 - 1) else 0;
    }

-- The last call failed with e, and no signal interrupted it.
pub record LastFailed (calls : Calls) (e : Error) : Type 0 where
  pub last : calls.last ≡ Some (Err e)
  pub kind : is_interrupted (error_kind e) ≡ false

-- A signal interrupted as many calls as are made, one after the other.
pub record AllInterrupted (calls : Calls) (e : Error) : Type 0 where
  pub as_many : 2 ^ 64 - 1 ≤ calls.interrupted
  pub kind : error_kind e ≡ ErrorKind.TimedOut

abbrev pub Failed : Calls → Error → Type 0
Failed calls e = LastFailed calls e ⊎ AllInterrupted calls e

-- The last write took none of the bytes.
pub record TookNothing (calls : Calls) (e : Error) : Type 0 where
  pub last : calls.last ≡ Some (Ok 0)
  pub kind : error_kind e ≡ ErrorKind.WriteZero

abbrev pub WriteFailed : Calls → Error → Type 0
WriteFailed calls e = Failed calls e ⊎ TookNothing calls e
