-- What a plan has: the slot that `next_write` names, and one above the record before and above its operator's highest number.
use Rattle.std.proofs.Common.{◌≡◌, refl, sym, ap, subst, ◌∙◌, Bool, true, false, cond, List, ℕ, ◌+◌, ◌-◌, ◌*◌, ◌^◌, ◌<◌, ◌≤◌, arith, ltb, ltb-true, slice_get, Option, Some, None, Result, Ok, Err}
use Rattle.std.proofs.lemmas.Option.{some_pair_parts}
use Rattle.slot.specs.Status.{other, info}
use Rattle.slot.specs.declared.slot.SlotIndex.{SlotIndex}
use Rattle.slot.specs.declared.slot.SlotInfo.{SlotInfo}
use Rattle.pair.specs.Pair.{status, named, info_by, winner_info, next_by, next_write}
use Rattle.pair.specs.declared.pair.PairReport.{PairReport}
use Rattle.pair.specs.declared.pair.Winner.{Winner}
use Rattle.judge.specs.Numbers.{numbers, highest}
use Rattle.judge.specs.Judge.{most_pairs}
use Rattle.judge.specs.Frames.{verdict_width, operator_in, pair_count, frames, row, refusal}
use Rattle.judge.proofs.FrameLaws.{few, too_many}
use Rattle.judge.specs.declared.verdict.JudgeError.{JudgeError}
use Rattle.plan.specs.declared.error.PlanError.{PlanError}
use Rattle.plan.specs.declared.write.Plan.{Plan}
use Rattle.plan.specs.Error.{unless_refused}
use Rattle.plan.specs.Numbers.{next_number, heal_number}
use Rattle.plan.specs.Heal.{plan_heal}
use Rattle.plan.specs.Next.{next_write as encoded_write}
use Rattle.plan.specs.Promise.{MoreRefused}
use Rattle.plan.specs.Pairs.{frame_report}
use Rattle.plan.specs.Plan.{followed, some_plan, plan_next, plan_write, NotTheWinner}

-- An answer is given where the judge does not refuse the frames.
pub given : {A : Type 0} (e : Option JudgeError) {r : Result A PlanError} {x : A} → unless_refused e r ≡ Ok x → (e ≡ None) × (r ≡ Ok x)
given None is = (refl, is)
given (Some e) is = absurd cc

pub planned_frame : (s f : List ℕ) (i : ℕ) (plan : Plan) → plan_write s i ≡ Ok (Some plan) → slice_get (frames s) i ≡ Some f
    → plan_next (next_write (frame_report f)) (followed (frame_report f)) (highest (numbers (operator_in f) (row s))) ≡ Ok (Some plan)
unfolding plan_write
planned_frame s f i plan is at = rw at at (given (refusal s 0) is).1

-- Where something is planned, the frames are of no more pairs than are judged.
pub planned_few : (s : List ℕ) (i : ℕ) (plan : Plan) → plan_write s i ≡ Ok (Some plan) → pair_count s ≤ most_pairs
unfolding plan_write
planned_few s i plan is = few s 0 (pair_count s * verdict_width) (given (refusal s 0) is).0

-- Of more bytes than the most pairs have nothing is planned.
pub more_refused : MoreRefused
unfolding next_number heal_number plan_write plan_heal encoded_write
more_refused s more =
    let refused = λ (clean : ℕ). too_many s clean (pair_count s * verdict_width) (omega (arith, more)) in
    record {
      next = λ o. rw (refused 0);
      above_winners = λ o. rw (refused 0);
      plan = λ i. rw (refused 0);
      heal = λ clean. rw (refused clean);
      encoded = λ i a b owner compat payload out. rw (refused 0);
    }

-- ---- what a plan has

pub record Has (next : Option SlotIndex) (record_before : ℕ × ℕ) (most : ℕ) (plan : Plan) : Type 0 where
  pub next_is : next ≡ Some plan.index
  pub generation : plan.generation ≡ record_before.0 + 1
  pub generation_fits : plan.generation < 2 ^ 64
  pub prev : plan.prev_header_crc32c ≡ record_before.1
  pub number : plan.meta_seq ≡ most + 1
  pub number_fits : plan.meta_seq < 2 ^ 64

abbrev plan_of : SlotIndex → ℕ × ℕ → ℕ → Plan
plan_of index record_before most =
    record { index = index; generation = record_before.0 + 1; prev_header_crc32c = record_before.1; meta_seq = most + 1 }

pub plan_has : (next : Option SlotIndex) (record_before : ℕ × ℕ) (most : ℕ) (plan : Plan)
    → plan_next next record_before most ≡ Ok (Some plan) → Has next record_before most plan
plan_has None record_before most plan is = absurd cc
plan_has (Some index) record_before most plan is =
    go (ltb record_before.0 (2 ^ 64 - 1)) (ltb most (2 ^ 64 - 1)) refl refl is
  where
    go : (g n : Bool) → ltb record_before.0 (2 ^ 64 - 1) ≡ g → ltb most (2 ^ 64 - 1) ≡ n
        → some_plan (cond g (cond n (Ok (plan_of index record_before most)) (Err PlanError.UsedUp)) (Err PlanError.UsedUp)) ≡ Ok (Some plan)
        → Has (Some index) record_before most plan
    go false n g_is n_is planned = absurd cc
    go true false g_is n_is planned = absurd cc
    go true true g_is n_is planned =
        let same : plan_of index record_before most ≡ plan = cc in
        let generation = ltb-true record_before.0 (2 ^ 64 - 1) g_is in
        let number = ltb-true most (2 ^ 64 - 1) n_is in
        subst (λ (x : Plan). Has (Some index) record_before most x) same
        (record {
          next_is = refl;
          generation = refl;
          generation_fits = omega arith;
          prev = refl;
          number = refl;
          number_fits = omega arith;
        })

-- ---- the planned slot is never the winner

pub next_of_winner : (r : PairReport) (index : SlotIndex) (i : SlotInfo) → winner_info r ≡ Some (index, i) → next_write r ≡ Some (other index)
next_of_winner r index i is = go r.winner is
  where
    at : (w : SlotIndex) (known : Option SlotInfo) → named w known ≡ Some (index, i) → Some (other w) ≡ Some (other index)
    at w None is = absurd cc
    at w (Some j) is = ap (λ (x : SlotIndex). Some (other x)) (some_pair_parts w index j i is).0

    go : (w : Winner) → info_by r w ≡ Some (index, i) → next_by w ≡ Some (other index)
    go Winner.Empty is = absurd cc
    go (Winner.Confirmed w) is = at w (info (status r w)) is
    go (Winner.Unconfirmed w) is = at w (info (status r w)) is
    go Winner.Fork is = absurd cc
    go Winner.Refused is = absurd cc
    go Winner.Lost is = absurd cc

pub not_the_winner : NotTheWinner
not_the_winner s f i plan won is at won_is =
    let has = plan_has _ _ _ plan (planned_frame s f i plan is at) in
    let next = next_of_winner (frame_report f) won.0 won.1 won_is in
    let same : Some plan.index ≡ Some (other won.0) = sym has.next_is ∙ next in
    cc
