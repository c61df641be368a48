-- The plan of the write that heals (docs/FORMAT.md, "What a correct write is").
use Rattle.std.specs.Prelude.{◌≡◌, List, ℕ, ◌*◌, ◌==◌, Option, Some, None, Result, Ok, Err, slice_get}
use Rattle.slot.specs.declared.slot.SlotIndex.{SlotIndex}
use Rattle.judge.specs.Numbers.{numbers, place, highest_other}
use Rattle.judge.specs.Judge.{judgement}
use Rattle.judge.specs.Frames.{verdict_width, operator_in, pair_count, frames, row, judge_frames, refusal}
use Rattle.judge.specs.declared.pairs.Pair.{Pair}
use Rattle.judge.specs.declared.verdict.Judgement.{Judgement}
use Rattle.plan.specs.declared.error.PlanError.{PlanError}
use Rattle.plan.specs.declared.write.Plan.{Plan}
use Rattle.plan.specs.Error.{unless_refused}
use Rattle.plan.specs.Pairs.{frame_report}
use Rattle.plan.specs.Plan.{followed, plan_at}

abbrev pub with_pair : ℕ → Result Plan PlanError → Result (Option (ℕ × Plan)) PlanError
with_pair pair (Ok plan) = Ok (Some (pair, plan))
with_pair pair (Err error) = Err error

-- The highest of all numbered slots of a frame's operator but the named one.
abbrev pub others_of : List ℕ → ℕ → SlotIndex → List Pair → ℕ
others_of f pair index ps = highest_other (place pair index) (numbers (operator_in f) ps)

-- A write to the named slot, with the number after that.
abbrev pub heal_in : Option (List ℕ) → ℕ → SlotIndex → List Pair → Result (Option (ℕ × Plan)) PlanError
heal_in None pair index ps = Err PlanError.NoPair
heal_in (Some f) pair index ps = with_pair pair (plan_at index (followed (frame_report f)) (others_of f pair index ps))

abbrev pub heal_for : List ℕ → Option (ℕ × SlotIndex) → Result (Option (ℕ × Plan)) PlanError
heal_for s None = Ok None
heal_for s (Some named) = heal_in (slice_get (frames s) named.0) named.0 named.1 (row s)

-- Of the slot that the judge names.
unfoldable pub plan_heal : List ℕ → ℕ → Result (Option (ℕ × Plan)) PlanError
plan_heal s clean = unless_refused (refusal s clean) (heal_for s (judgement (row s) (clean == 1)).heal)

-- What is planned is the slot that the judge names, and where nothing is planned it names none.
pub record HealsTheNamed : Type 0 where
  pub planned : (s : List ℕ) (clean pair : ℕ) (plan : Plan) (j : Judgement)
      → plan_heal s clean ≡ Ok (Some (pair, plan)) → judge_frames s clean (pair_count s * verdict_width) ≡ Ok j
      → j.heal ≡ Some (pair, plan.index)
  pub none : (s : List ℕ) (clean : ℕ) (j : Judgement)
      → plan_heal s clean ≡ Ok None → judge_frames s clean (pair_count s * verdict_width) ≡ Ok j
      → j.heal ≡ None
