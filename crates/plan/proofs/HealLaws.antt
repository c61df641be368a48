-- The planned heal is of the slot that the judge names.
use Rattle.std.proofs.Common.{◌≡◌, refl, sym, ap, ap₂, subst, ◌∙◌, List, ℕ, ◌*◌, ◌==◌, slice_get, Option, Some, None, Result, Ok, Err}
use Rattle.std.proofs.lemmas.Option.{some_pair_parts, same_Some}
use Rattle.slot.specs.declared.slot.SlotIndex.{SlotIndex}
use Rattle.judge.specs.Judge.{judgement, unless}
use Rattle.judge.specs.Frames.{verdict_width, pair_count, frames, row, frames_error, judge_frames, refusal}
use Rattle.judge.specs.declared.pairs.Pair.{Pair}
use Rattle.judge.specs.declared.verdict.JudgeError.{JudgeError}
use Rattle.judge.specs.declared.verdict.Judgement.{Judgement}
use Rattle.plan.specs.declared.error.PlanError.{PlanError}
use Rattle.plan.specs.declared.write.Plan.{Plan}
use Rattle.plan.specs.Pairs.{frame_report}
use Rattle.plan.specs.Plan.{followed, plan_at, some_plan}
use Rattle.plan.specs.Heal.{others_of, with_pair, heal_in, heal_for, plan_heal, HealsTheNamed}
use Rattle.plan.proofs.PlanLaws.{given, Has, plan_has}

-- What the judge answers where it answers.
judged : (s : List ℕ) (clean : ℕ) (j : Judgement) → judge_frames s clean (pair_count s * verdict_width) ≡ Ok j
    → judgement (row s) (clean == 1) ≡ j
unfolding judge_frames
judged s clean j is = go (frames_error s clean (pair_count s * verdict_width)) is
  where
    go : (e : Option JudgeError) → unless e (judgement (row s) (clean == 1)) ≡ Ok j → judgement (row s) (clean == 1) ≡ j
    go None is = cc
    go (Some e) is = absurd cc

-- A plan is answered for the pair and the slot that it was asked for, after the winner's record and this number.
asked : (f : List ℕ) (pair k : ℕ) (index : SlotIndex) (most : ℕ) (plan : Plan)
    → with_pair k (plan_at index (followed (frame_report f)) most) ≡ Ok (Some (pair, plan))
    → (◌≡◌ {A = ℕ × SlotIndex} (k, index) (pair, plan.index)) × Has (Some plan.index) (followed (frame_report f)) most plan
asked f pair k index most plan is = go (plan_at index (followed (frame_report f)) most) refl is
  where
    go : (r : Result Plan PlanError) → plan_at index (followed (frame_report f)) most ≡ r → with_pair k r ≡ Ok (Some (pair, plan))
        → (◌≡◌ {A = ℕ × SlotIndex} (k, index) (pair, plan.index)) × Has (Some plan.index) (followed (frame_report f)) most plan
    go (Err e) r_is is = absurd cc
    go (Ok p) r_is is =
        let inner : Some (k, p) ≡ Some (pair, plan) = cc in
        let same = some_pair_parts k pair p plan inner in
        let has = plan_has (Some index) (followed (frame_report f)) most p (ap some_plan r_is) in
        let index_is : index ≡ p.index = same_Some index p.index has.next_is in (
          ap₂ (λ (n : ℕ) (x : SlotIndex). (n, x)) same.0 (index_is ∙ ap (λ (x : Plan). x.index) same.1),
          subst (λ (x : Plan). Has (Some x.index) (followed (frame_report f)) most x) same.1
              (subst (λ (x : SlotIndex). Has (Some x) (followed (frame_report f)) most p) index_is has),
        )

not_none : (f : Option (List ℕ)) (k : ℕ) (index : SlotIndex) (ps : List Pair) → heal_in f k index ps ≡ Ok None → ⊥
not_none None k index ps is = cc
not_none (Some f) k index ps is = go (plan_at index (followed (frame_report f)) (others_of f k index ps)) is
  where
    go : (r : Result Plan PlanError) → with_pair k r ≡ Ok None → ⊥
    go (Err e) is = cc
    go (Ok p) is = cc

module _ (s : List ℕ) (clean : ℕ) where
  abbrev pub named : Option (ℕ × SlotIndex)
  named = (judgement (row s) (clean == 1)).heal

  -- What is planned is for the named slot, after the record of its pair's winner and the highest of its operator's other numbers.
  abbrev pub Planned : ℕ → Plan → List ℕ → Type 0
  Planned pair plan f =
      (slice_get (frames s) pair ≡ Some f)
      × Has (Some plan.index) (followed (frame_report f)) (others_of f pair plan.index (row s)) plan

  pub planned : (pair : ℕ) (plan : Plan) → plan_heal s clean ≡ Ok (Some (pair, plan))
      → (named ≡ Some (pair, plan.index)) × ((f : List ℕ) × Planned pair plan f)
  unfolding plan_heal
  planned pair plan is = go named (given (refusal s clean) is).1
    where
      in_frame : (k : ℕ) (index : SlotIndex) (frame : Option (List ℕ)) → slice_get (frames s) k ≡ frame
          → heal_in frame k index (row s) ≡ Ok (Some (pair, plan))
          → (◌≡◌ {A = ℕ × SlotIndex} (k, index) (pair, plan.index)) × ((f : List ℕ) × Planned pair plan f)
      in_frame k index None frame_is is = absurd cc
      in_frame k index (Some f) frame_is is =
          let known = asked f pair k index (others_of f k index (row s)) plan is in (
            known.0,
            (
              f,
              subst
                  (λ (x : ℕ × SlotIndex).
                  (slice_get (frames s) x.0 ≡ Some f)
                  × Has (Some plan.index) (followed (frame_report f)) (others_of f x.0 x.1 (row s)) plan)
                  known.0 (frame_is, known.1),
            ),
          )

      go : (n : Option (ℕ × SlotIndex)) → heal_for s n ≡ Ok (Some (pair, plan))
          → (n ≡ Some (pair, plan.index)) × ((f : List ℕ) × Planned pair plan f)
      go None is = absurd cc
      go (Some n) is = let known = in_frame n.0 n.1 (slice_get (frames s) n.0) refl is in (ap Some known.0, known.1)

  none_planned : plan_heal s clean ≡ Ok None → named ≡ None
  unfolding plan_heal
  none_planned is = go named (given (refusal s clean) is).1
    where
      go : (n : Option (ℕ × SlotIndex)) → heal_for s n ≡ Ok None → n ≡ None
      go None is = refl
      go (Some n) is = absurd (not_none (slice_get (frames s) n.0) n.0 n.1 (row s) is)

pub heals_the_named : HealsTheNamed
heals_the_named =
    record {
      planned = λ s clean pair plan j is answer.
          ap (λ (x : Judgement). x.heal) (sym (judged s clean j answer)) ∙ (planned s clean pair plan is).0;
      none = λ s clean j is answer. ap (λ (x : Judgement). x.heal) (sym (judged s clean j answer)) ∙ none_planned s clean is;
    }
