-- The numbers of a row of pairs that rest, and of such a row with one other pair: an operator's highest is a winner's, and the number one
-- above its winners qualifies in the slot beside any of them. Which slot is named.
use Rattle.std.proofs.Common.{◌≡◌, refl, sym, ap, ◌∙◌, Bool, true, false, ◌&&◌, cond, List, [], ◌∷◌, ◌++◌, ℕ, ◌+◌, ◌≤◌, max, arith, eqb, eq-eqb, length, Option, Some, None}
use mathlib.Core.Bool.{and-false}
use Rattle.slot.specs.Status.{other}
use Rattle.slot.specs.declared.slot.SlotIndex.{SlotIndex}
use Rattle.slot.specs.declared.slot.SlotInfo.{SlotInfo}
use Rattle.judge.specs.Pairs.{pair_case}
use Rattle.judge.specs.Numbers.{number_for, numbers, place, highest, highest_other}
use Rattle.judge.specs.Verdict.{winner_beside, is_in_flight}
use Rattle.judge.specs.Judge.{first_verdicts, volume_verdict, mark_counts, row_rules, pair_heal, judgement}
use Rattle.judge.specs.declared.verdict.SlotVerdict.{SlotVerdict}
use Rattle.judge.specs.declared.verdict.PairVerdict.{PairVerdict}
use Rattle.cut.specs.Store.{Every, Pair, shown}
use Rattle.cut.specs.Cut.{is_empty}
use Rattle.cut.proofs.StatusLaws.{false_true}
use Rattle.cut.proofs.JudgeLaws.{Quiet, quiet_explained, Explained, settled_none}
use Rattle.cut.proofs.PairLaws.{other_other, shown_pair, shown_slot, number_at, Stands}
use Rattle.cut.proofs.NumberLaws.{others_row}
use Rattle.cut.proofs.StateLaws.{Leads, winner_number as leads_number, resting_number}
use Rattle.cut.proofs.RowLaws.{Rested, quiet_of, rested_stands, rested_verdicts, rule_at, heal_is}
use Rattle.plan.specs.Numbers.{case_winner, number_by, winner_number, winner_for, highest_winner}
use Rattle.plan.proofs.WinnerLaws.{first_winner}
use Rattle.history.specs.History.{read_mark, named}

-- ---- a pair's winner

number_of : (x : SlotIndex) (p : Pair) → number_by (Some x) (shown_pair p) ≡ number_at x p
number_of SlotIndex.A p = refl
number_of SlotIndex.B p = refl

pub stands_number : {p : Pair} {rule : SlotIndex → Option ℕ → Bool} {x : SlotIndex} {i : SlotInfo} {v : SlotVerdict} {r : List ℕ}
    → Stands p rule x i v r
    → Leads p x i → winner_number (shown_pair p) ≡ i.meta_seq
stands_number {p} {rule} {x} {i} stands leads =
    let won : case_winner (pair_case (shown_pair p)) ≡ Some x =
    sym (first_winner rule (pair_case (shown_pair p))) ∙ ap (λ (v : PairVerdict). v.winner) stands.verdict in
    ap (λ (w : Option SlotIndex). number_by w (shown_pair p)) won ∙ number_of x p ∙ leads_number p x i leads

rested_number : {p : Pair} (rested : Rested p) → winner_number (shown_pair p) ≡ rested.info.meta_seq
rested_number rested = stands_number (rested_stands rested (λ index number. true)) rested.leads

-- ---- the highest number of an operator

either_highest : (p : Pair) (x : SlotIndex) → number_at (other x) p ≤ number_at x p
    → max (number_at SlotIndex.A p) (number_at SlotIndex.B p) ≡ number_at x p
either_highest p SlotIndex.A below = omega arith
either_highest p SlotIndex.B below = omega arith

-- Of a pair that rests; a pair of another operator counts for none.
rested_for : (o : ℕ) {p : Pair} (rested : Rested p)
    → max (number_for o (shown_pair p) (shown_slot p.a)) (number_for o (shown_pair p) (shown_slot p.b)) ≡ winner_for o (shown_pair p)
rested_for o {p} rested = go (eqb p.operator o)
  where
    go : (own : Bool) → max (cond own (number_at SlotIndex.A p) 0) (cond own (number_at SlotIndex.B p) 0) ≡ cond own (winner_number (shown_pair p)) 0
    go true =
        either_highest p rested.winner (resting_number p rested.winner rested.info rested.leads rested.resting)
        ∙ leads_number p rested.winner rested.info rested.leads
        ∙ sym (rested_number rested)
    go false = refl

pub rested_highest : (o : ℕ) {ps : List Pair} → Every Rested ps → highest (numbers o (shown ps)) ≡ highest_winner o (shown ps)
rested_highest o Every.none = refl
rested_highest o (Every.more {x = p} rested rest) =
    let here = rested_for o rested in
    let others = rested_highest o rest in
    omega arith

winners_row : (o : ℕ) (before : List Pair) (p : Pair) (behind : List Pair)
    → highest_winner o (shown (before ++ p ∷ behind))
    ≡ max (highest_winner o (shown before)) (max (winner_for o (shown_pair p)) (highest_winner o (shown behind)))
winners_row o [] p behind = omega arith
winners_row o (q ∷ before) p behind = let rest = winners_row o before p behind in omega arith

-- ---- one pair among those that rest, of the operator o

module _ {before behind : List Pair} (rest_before : Every Rested before) (rest_behind : Every Rested behind) (p : Pair) (x : SlotIndex) (i : SlotInfo)
    (leads : Leads p x i) (number_is : winner_number (shown_pair p) ≡ i.meta_seq) (o : ℕ) (own : p.operator ≡ o) where
  pub winners_are : highest_winner o (shown (before ++ p ∷ behind))
      ≡ max (highest_winner o (shown before)) (max i.meta_seq (highest_winner o (shown behind)))
  winners_are =
      winners_row o before p behind
      ∙ ap (λ (n : ℕ). max (highest_winner o (shown before)) (max n (highest_winner o (shown behind))))
      (rw (eq-eqb p.operator o own) number_is)

  -- The highest of all its slots but the one beside the winner is a winner's,
  pub others_are : highest_other (place (length before) (other x)) (numbers o (shown (before ++ p ∷ behind)))
      ≡ highest_winner o (shown (before ++ p ∷ behind))
  others_are =
      let others = others_row o before p behind own (other x) in
      let counted = ap (λ (index : SlotIndex). number_at index p) (other_other x) ∙ leads_number p x i leads in
      let first = rested_highest o rest_before in
      let last = rested_highest o rest_behind in
      let winners = winners_are in
      omega arith

  -- and so the number one above its winners qualifies there.
  pub flight_qualifies : rule_at o (shown (before ++ p ∷ behind)) (length before) (other x) (Some (highest_winner o (shown (before ++ p ∷ behind)) + 1))
      ≡ true
  flight_qualifies =
      let others = others_are in
      eq-eqb (highest_winner o (shown (before ++ p ∷ behind)) + 1)
      (highest_other (place (length before) (other x)) (numbers o (shown (before ++ p ∷ behind))) + 1) (omega arith)

-- ---- the slot that is named

pub quiet_idle : {v : SlotVerdict} → Quiet v → is_in_flight v ≡ false
quiet_idle Quiet.intact = refl
quiet_idle Quiet.damaged = refl

pub rest_named : {p : Pair} {ps : List Pair} → Every Rested (p ∷ ps) → named (p ∷ ps) ≡ None
rest_named {p} {ps} (Every.more rested rest) =
    heal_is Every.none rest p (quiet_explained (quiet_of rested).quiet) (rested_stands rested (rule_at p.operator (shown (p ∷ ps)) 0))
    (read_mark (p ∷ ps)) (λ flight. false_true (quiet_idle (quiet_of rested).quiet) flight)
    ∙ settled_none rested.winner (quiet_of rested).quiet 0

-- Then the mark counts as it is.
quiet_counts : (m : Bool) (x : SlotIndex) {v : SlotVerdict} → Quiet v → mark_counts m (winner_beside x v) ≡ m
quiet_counts true SlotIndex.A Quiet.intact = refl
quiet_counts true SlotIndex.A Quiet.damaged = refl
quiet_counts true SlotIndex.B Quiet.intact = refl
quiet_counts true SlotIndex.B Quiet.damaged = refl
quiet_counts false x quiet = refl

pub rest_counts : {p : Pair} {ps : List Pair} → Every Rested (p ∷ ps) → (m : Bool) → (judgement (shown (p ∷ ps)) m).clean ≡ m
unfolding judgement row_rules first_verdicts
rest_counts {p} {ps} (Every.more rested rest) m =
    ap (mark_counts m) (rested_stands rested (rule_at p.operator (shown (p ∷ ps)) 0)).verdict ∙ quiet_counts m rested.winner (quiet_of rested).quiet

-- Where a write is in flight, it does not count: in pair 0 by the judge's rule, and elsewhere it is not set.
pub flown_unmarked : {before : List Pair} (rest : Every Rested before) (m : Bool) (x : SlotIndex) (vs : List PairVerdict)
    → (is_empty before ≡ false → m ≡ false)
    → mark_counts m (volume_verdict (rested_verdicts rest ++ winner_beside x SlotVerdict.InFlight ∷ vs)) ≡ false
flown_unmarked Every.none m SlotIndex.A vs unset = and-false (m && true)
flown_unmarked Every.none m SlotIndex.B vs unset = and-false (m && true)
flown_unmarked (Every.more rested rest) m x vs unset = rw (unset refl) refl

heal_flight : (n : ℕ) (x : SlotIndex) → pair_heal n (winner_beside x SlotVerdict.InFlight) ≡ Some (n, other x)
heal_flight n SlotIndex.A = refl
heal_flight n SlotIndex.B = refl

pub fly_named : {before behind : List Pair} (rest_before : Every Rested before) (rest_behind : Every Rested behind) (p : Pair) {x : SlotIndex} {i : SlotInfo}
    {r : List ℕ} → Stands p (rule_at p.operator (shown (before ++ p ∷ behind)) (length before)) x i SlotVerdict.InFlight r
    → (is_empty before ≡ false → read_mark (before ++ p ∷ behind) ≡ false)
    → named (before ++ p ∷ behind) ≡ Some (length before, other x)
fly_named {before} {behind} rest_before rest_behind p {x} stands unset =
    heal_is rest_before rest_behind p Explained.torn stands (read_mark (before ++ p ∷ behind))
    (λ flight. flown_unmarked rest_before (read_mark (before ++ p ∷ behind)) x (rested_verdicts rest_behind) unset)
    ∙ heal_flight (length before) x
