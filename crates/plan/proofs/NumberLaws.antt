-- The first of an operator's two highest numbers is its highest number; and what they give beside a pair's slot is the highest number of
-- the others of its operator.
use Rattle.std.proofs.Common.{◌≡◌, refl, sym, ap, ◌∙◌, List, [], ◌∷◌, ℕ, ◌==◌, zero, suc, max, arith, eq-eqb, map, slice_get, Option, Some, None, Result, Ok}
use Rattle.slot.specs.declared.slot.SlotIndex.{SlotIndex}
use Rattle.judge.specs.declared.numbers.Maxima.{Maxima}
use Rattle.judge.specs.Pairs.{numbered}
use Rattle.judge.specs.Numbers.{number, number_for, numbers, place, highest}
use Rattle.judge.specs.Maxima.{no_maxima, note, note_all, two_highest, others_max}
use Rattle.judge.specs.Verdict.{by_index}
use Rattle.judge.specs.Frames.{operator_in, pair_from, frames, row, refusal, frames_heal}
use Rattle.judge.proofs.NumberLaws.{At, others-same}
use Rattle.judge.specs.Judge.{judgement, unless}
use Rattle.judge.specs.declared.verdict.JudgeError.{JudgeError}
use Rattle.plan.specs.declared.error.PlanError.{PlanError}
use Rattle.plan.specs.declared.write.Plan.{Plan}
use Rattle.plan.specs.Error.{unless_refused}
use Rattle.plan.specs.Pairs.{frame_report}
use Rattle.plan.specs.Plan.{followed, plan_at}
use Rattle.plan.specs.Heal.{others_of, with_pair, heal_for, plan_heal}

first_of : (m : Maxima) (vs : List ℕ) → (note_all m vs).first ≡ max m.first (highest vs)
first_of m [] = omega arith
first_of m (v ∷ vs) = first_of (note m v) vs ∙ omega arith

pub first_highest : (vs : List ℕ) → (note_all no_maxima vs).first ≡ highest vs
first_highest vs = first_of no_maxima vs ∙ omega arith

-- ---- all slots but one

next_place : (j : ℕ) (index : SlotIndex) → place (suc j) index ≡ suc (suc (place j index))
next_place j SlotIndex.A = omega arith
next_place j SlotIndex.B = omega arith

-- A pair counts for its own operator.
own_number : (f : List ℕ) (index : SlotIndex)
    → number_for (operator_in f) (pair_from f) (by_index index (pair_from f).a (pair_from f).b)
    ≡ number (numbered (by_index index (pair_from f).a (pair_from f).b))
own_number f index = rw (eq-eqb (operator_in f) (operator_in f) refl) refl

-- The number of a frame's slot has its place among those of its operator.
at_place : (o k : ℕ) (index : SlotIndex) (f : List ℕ) (fs : List (List ℕ)) → slice_get fs k ≡ Some f
    → At (place k index) (numbers o (map pair_from fs)) (number_for o (pair_from f) (by_index index (pair_from f).a (pair_from f).b))
at_place o k index f [] is = absurd cc
at_place o zero SlotIndex.A f (g ∷ fs) is = let same : g ≡ f = cc in rw same At.here
at_place o zero SlotIndex.B f (g ∷ fs) is = let same : g ≡ f = cc in rw same (At.there At.here)
at_place o (suc k) index f (g ∷ fs) is = rw (next_place k index) (At.there (At.there (at_place o k index f fs is)))

others_highest : (k : ℕ) (index : SlotIndex) (f : List ℕ) (fs : List (List ℕ)) → slice_get fs k ≡ Some f
    → others_max (note_all no_maxima (numbers (operator_in f) (map pair_from fs))) (number (numbered (by_index index (pair_from f).a (pair_from f).b)))
    ≡ others_of f k index (map pair_from fs)
others_highest k index f fs at =
    ap (others_max (note_all no_maxima (numbers (operator_in f) (map pair_from fs)))) (sym (own_number f index))
    ∙ others-same (place k index) (numbers (operator_in f) (map pair_from fs)) _ (at_place (operator_in f) k index f fs at)

-- Over frames that are not refused, what is planned for the named slot is the plan of the frame f of its pair.
pub heal_is : (s : List ℕ) (clean k : ℕ) (index : SlotIndex) (f : List ℕ) (m : Maxima) (answer : Result (Option (ℕ × Plan)) PlanError)
    → Ok (Some (k, index)) ≡ frames_heal s clean → m ≡ two_highest (operator_in f) (row s) → Some f ≡ slice_get (frames s) k
    → answer ≡ with_pair k (plan_at index (followed (frame_report f)) (others_max m (number (numbered (by_index index (pair_from f).a (pair_from f).b)))))
    → answer ≡ plan_heal s clean
unfolding plan_heal
heal_is s clean k index f m answer named highest here answer_is = answer_is ∙ go (refusal s clean) named
  where
    at : slice_get (frames s) k ≡ Some f
    at = sym here

    go : (e : Option JudgeError) → Ok (Some (k, index)) ≡ unless e (judgement (row s) (clean == 1)).heal
        → with_pair k (plan_at index (followed (frame_report f)) (others_max m (number (numbered (by_index index (pair_from f).a (pair_from f).b)))))
        ≡ unless_refused e (heal_for s (judgement (row s) (clean == 1)).heal)
    go None heal_is =
        let same : (judgement (row s) (clean == 1)).heal ≡ Some (k, index) = cc in
        rw (same, at, highest, others_highest k index f (frames s) at)
    go (Some e) heal_is = absurd cc
