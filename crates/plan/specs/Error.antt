-- Why nothing is planned (docs/FORMAT.md, "Refusals").
use Rattle.std.specs.Prelude.{ℕ, Option, Some, None, Result, Err}
use Rattle.slot.specs.Status.{error_number as encode_number}
use Rattle.judge.specs.Values.{error_number as judge_number}
use Rattle.judge.specs.declared.verdict.JudgeError.{JudgeError}
use Rattle.plan.specs.declared.error.PlanError.{PlanError}

-- The judge's 8, 45 and 10; 8 no such pair; 10 no such operator; 48 no generation or no number is left; of `encode` 1, 2 and 3.
abbrev pub error_number : PlanError → ℕ
error_number (PlanError.Frames error) = judge_number error
error_number PlanError.NoPair = 8
error_number PlanError.NoOperator = 10
error_number PlanError.UsedUp = 48
error_number (PlanError.Encode error) = encode_number error

-- The answer, unless the judge refuses the frames.
abbrev pub unless_refused : {A : Type 0} → Option JudgeError → Result A PlanError → Result A PlanError
unless_refused None answer = answer
unless_refused (Some error) answer = Err (PlanError.Frames error)
