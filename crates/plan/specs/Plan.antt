-- The plan of a pair's next write (docs/FORMAT.md, "What a correct write is").
use Rattle.std.specs.Prelude.{◌≡◌, List, ℕ, ◌+◌, ◌-◌, ◌^◌, nat_lt, if◌then◌else◌, Option, Some, None, Result, Ok, Err, slice_get}
use Rattle.slot.specs.Status.{other}
use Rattle.slot.specs.declared.slot.SlotIndex.{SlotIndex}
use Rattle.slot.specs.declared.slot.SlotInfo.{SlotInfo}
use Rattle.pair.specs.Pair.{winner_info, next_write}
use Rattle.pair.specs.declared.pair.PairReport.{PairReport}
use Rattle.judge.specs.Numbers.{numbers, highest}
use Rattle.judge.specs.Frames.{operator_in, frames, row, refusal}
use Rattle.judge.specs.declared.pairs.Pair.{Pair}
use Rattle.plan.specs.declared.error.PlanError.{PlanError}
use Rattle.plan.specs.declared.write.Plan.{Plan}
use Rattle.plan.specs.Error.{unless_refused}
use Rattle.plan.specs.Pairs.{frame_report}

-- The generation and the own checksum of the record that the write follows, the winner; of an Empty pair zeros.
abbrev pub followed_by : Option (SlotIndex × SlotInfo) → ℕ × ℕ
followed_by (Some won) = (won.1.generation, won.1.header_crc32c)
followed_by None = (0, 0)

abbrev pub followed : PairReport → ℕ × ℕ
followed r = followed_by (winner_info r)

-- One generation and one number above; none where either would be above 2^64 - 1.
abbrev pub plan_at : SlotIndex → ℕ × ℕ → ℕ → Result Plan PlanError
plan_at index record_before most =
    if nat_lt record_before.0 (2 ^ 64 - 1) then
    if nat_lt most (2 ^ 64 - 1) then
    Ok (record {
      index = index;
      generation = record_before.0 + 1;
      prev_header_crc32c = record_before.1;
      meta_seq = most + 1;
    })
    else Err PlanError.UsedUp
    else Err PlanError.UsedUp

abbrev pub some_plan : {A : Type 0} → Result A PlanError → Result (Option A) PlanError
some_plan (Ok plan) = Ok (Some plan)
some_plan (Err error) = Err error

-- For the slot that `next_write` names. A Fork, a Lost and a Refused pair has none, and nothing more is refused.
abbrev pub plan_next : Option SlotIndex → ℕ × ℕ → ℕ → Result (Option Plan) PlanError
plan_next None record_before most = Ok None
plan_next (Some index) record_before most = some_plan (plan_at index record_before most)

-- With the number after the highest of the frame's operator.
abbrev pub plan_for : Option (List ℕ) → List Pair → Result (Option Plan) PlanError
plan_for None ps = Err PlanError.NoPair
plan_for (Some f) ps = plan_next (next_write (frame_report f)) (followed (frame_report f)) (highest (numbers (operator_in f) ps))

-- Of the pair i, with the number of its operator's next write.
unfoldable pub plan_write : List ℕ → ℕ → Result (Option Plan) PlanError
plan_write s i = unless_refused (refusal s 0) (plan_for (slice_get (frames s) i) (row s))

-- The planned slot is never the winner.
abbrev pub NotTheWinner : Type 0
NotTheWinner =
    (s f : List ℕ) (i : ℕ) (plan : Plan) (won : SlotIndex × SlotInfo)
    → plan_write s i ≡ Ok (Some plan) → slice_get (frames s) i ≡ Some f → winner_info (frame_report f) ≡ Some won
    → plan.index ≡ other won.0
