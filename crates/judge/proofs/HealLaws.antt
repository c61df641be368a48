-- A slot is named for healing if and only if its last verdict is InFlight. The first pass leaves at most one slot of a pair in flight, so
-- that its candidates are the slots in flight; the second pass leaves none of them unless there is one. So at most one slot is in flight.
use Rattle.std.proofs.Common.{◌≡◌, refl, ap, ◌∙◌, Bool, true, false, cond, List, [], ◌∷◌, ℕ, zero, suc, ◌+◌, ◌≤◌, zero-add, arith, eqb-true, eqb, Option, Some, None, subst}
use Rattle.std.specs.Option.{option_or}
use Rattle.slot.specs.declared.slot.SlotIndex.{SlotIndex}
use Rattle.judge.specs.declared.pairs.Pair.{Pair}
use Rattle.judge.specs.declared.pairs.PairCase.{PairCase}
use Rattle.judge.specs.Pairs.{pair_case}
use Rattle.judge.specs.declared.verdict.SlotVerdict.{SlotVerdict}
use Rattle.judge.specs.declared.verdict.PairVerdict.{PairVerdict}
use Rattle.judge.specs.Verdict.{by_index, pair_verdict, is_in_flight, in_flight}
use Rattle.judge.specs.Judge.{verdicts_from, first_verdicts, candidates, first_tally, demoted_slot, demoted, last_verdicts, pair_heal, heal, row_rules, verdicts, judgement, slot_at, HealNames}

-- How many slots of a pair are in flight, and of a row.
abbrev pair_in_flight : PairVerdict → ℕ
pair_in_flight v = cond (is_in_flight v.a) 1 0 + cond (is_in_flight v.b) 1 0

abbrev pub slots_in_flight : List PairVerdict → ℕ
slots_in_flight [] = 0
slots_in_flight (v ∷ vs) = pair_in_flight v + slots_in_flight vs

-- ---- the first pass: the candidates are the slots in flight

one-of-pair : (q : SlotIndex → Option ℕ → Bool) (case : PairCase) → pair_in_flight (pair_verdict q case) ≡ cond (in_flight (pair_verdict q case)) 1 0
one-of-pair q PairCase.Refused = refl
one-of-pair q PairCase.Lost = refl
one-of-pair q (PairCase.Won SlotIndex.A o) = grind arith
one-of-pair q (PairCase.Won SlotIndex.B o) = grind arith

candidates-from : (all : List Pair) (i : ℕ) (ps : List Pair) → slots_in_flight (verdicts_from all i ps) ≡ candidates (verdicts_from all i ps)
candidates-from all i [] = refl
candidates-from all i (p ∷ ps) = rw (one-of-pair _ (pair_case p), candidates-from all (suc i) ps, one_more)
  where
    one_more : (v : PairVerdict) (vs : List PairVerdict) → cond (in_flight v) 1 0 + candidates vs ≡ candidates (v ∷ vs)
    one_more v vs = grind arith

first-candidates : (ps : List Pair) → slots_in_flight (first_verdicts ps) ≡ candidates (first_verdicts ps)
unfolding first_verdicts
first-candidates ps = candidates-from ps 0 ps

-- ---- the second pass: at most one slot is in flight

slot-demoted : (v : SlotVerdict) → is_in_flight (demoted_slot v) ≡ false
slot-demoted v = grind arith

demoted-none : (v : PairVerdict) → pair_in_flight (demoted true v) ≡ 0
demoted-none v = grind (arith, slot-demoted)

demoted-most : (demote : Bool) (v : PairVerdict) → pair_in_flight (demoted demote v) ≤ pair_in_flight v
demoted-most true v = omega (arith, demoted-none v)
demoted-most false v = omega arith

last_none : (vs : List PairVerdict) → slots_in_flight (last_verdicts true true vs) ≡ 0
last_none [] = refl
last_none (v ∷ vs) = rw (demoted-none v, last_none vs)

last-most : (volume page : Bool) (vs : List PairVerdict) → slots_in_flight (last_verdicts volume page vs) ≤ slots_in_flight vs
last-most volume page [] = omega arith
last-most volume page (v ∷ vs) = omega (arith, demoted-most volume v, last-most page page vs)

-- Unless there is one candidate, all are demoted.
all-demoted : (ps : List Pair) (clean : Bool) → eqb (candidates (first_verdicts ps)) 1 ≡ false
    → ((row_rules ps clean).volume_demote ≡ true) × ((row_rules ps clean).page_demote ≡ true)
unfolding row_rules first_tally
all-demoted ps clean several = (grind (arith, several), grind (arith, several))

pub one-in-flight : (ps : List Pair) (clean : Bool) → slots_in_flight (verdicts ps clean) ≤ 1
unfolding verdicts
one-in-flight ps clean = go (eqb (candidates (first_verdicts ps)) 1) refl
  where
    go : (one : Bool) → eqb (candidates (first_verdicts ps)) 1 ≡ one
        → slots_in_flight (last_verdicts (row_rules ps clean).volume_demote (row_rules ps clean).page_demote (first_verdicts ps)) ≤ 1
    go true is =
        let most = last-most (row_rules ps clean).volume_demote (row_rules ps clean).page_demote (first_verdicts ps) in
        let one : candidates (first_verdicts ps) ≡ 1 = eqb-true (candidates (first_verdicts ps)) 1 is in
        omega (arith, first-candidates ps)
    go false is = let all = all-demoted ps clean is in rw (all.0, all.1, last_none) (omega arith)

-- ---- the slot to heal

is-in-flight : (v : SlotVerdict) → is_in_flight v ≡ true → v ≡ SlotVerdict.InFlight
is-in-flight v is = grind (arith, is)

-- What is named among the pairs from the ith on is in flight.
Named : List PairVerdict → ℕ → Option (ℕ × SlotIndex) → Type 0
Named vs i None = Unit {0}
Named vs i (Some h) = (k : ℕ) × ((h.0 ≡ i + k) × (slot_at vs k h.1 ≡ SlotVerdict.InFlight))

named : (vs : List PairVerdict) (i : ℕ) → Named vs i (heal i vs)
unfolding Named
named [] i = tt
named (v ∷ vs) i = go (heal (i + 1) vs) (named vs (i + 1))
  where
    own : (a b : Bool) → is_in_flight v.a ≡ a → is_in_flight v.b ≡ b → Named (v ∷ vs) i (pair_heal i v)
    own a true a-is b-is = rw b-is (0, (omega arith, is-in-flight v.b b-is))
    own true false a-is b-is = rw (a-is, b-is) (0, (omega arith, is-in-flight v.a a-is))
    own false false a-is b-is = rw (a-is, b-is) tt

    go : (later : Option (ℕ × SlotIndex)) → Named vs (i + 1) later → Named (v ∷ vs) i (option_or later (pair_heal i v))
    go None none = own (is_in_flight v.a) (is_in_flight v.b) refl refl
    go (Some h) (k, (place, flies)) = (suc k, (omega (arith, place), flies))

-- Where none is in flight none is named, and where one is, it is named.
none_named : (i : ℕ) (vs : List PairVerdict) → slots_in_flight vs ≡ 0 → heal i vs ≡ None
none_named i [] idle = refl
none_named i (v ∷ vs) idle = rw (none_named (i + 1) vs (omega arith)) (pair-none (omega arith))
  where
    pair-none : pair_in_flight v ≡ 0 → pair_heal i v ≡ None
    pair-none idle = grind (arith, idle)

pair-named : (i : ℕ) (v : PairVerdict) (index : SlotIndex) → pair_in_flight v ≤ 1 → by_index index v.a v.b ≡ SlotVerdict.InFlight
    → (pair_heal i v ≡ Some (i, index)) × (pair_in_flight v ≡ 1)
pair-named i v SlotIndex.A most flies = (grind (arith, most, flies), grind (arith, most, flies))
pair-named i v SlotIndex.B most flies = (grind (arith, most, flies), grind (arith, most, flies))

pub one-named : (i : ℕ) (vs : List PairVerdict) (k : ℕ) (index : SlotIndex) → slots_in_flight vs ≤ 1 → slot_at vs k index ≡ SlotVerdict.InFlight
    → heal i vs ≡ Some (i + k, index)
one-named i [] k index most flies = cc
one-named i (v ∷ vs) zero index most flies =
    let own = pair-named i v index (omega arith) flies in
    rw (none_named (i + 1) vs (omega (arith, own.1)), own.0) (ap (λ (pair : ℕ). Some (pair, index)) (omega arith))
one-named i (v ∷ vs) (suc k) index most flies =
    rw (one-named (i + 1) vs k index (omega arith) flies) (ap (λ (pair : ℕ). Some (pair, index)) (omega arith))

pub heal_names : HealNames
unfolding judgement Named
heal_names ps clean k index = (
  λ is.
      let found : Named (verdicts ps clean) 0 (Some (k, index)) = subst (Named (verdicts ps clean) 0) is (named (verdicts ps clean) 0) in
      let same : found.0 ≡ k = omega (arith, found.1.0) in
      subst (λ (j : ℕ). slot_at (verdicts ps clean) j index ≡ SlotVerdict.InFlight) same found.1.1,
  λ flies. one-named 0 (verdicts ps clean) k index (one-in-flight ps clean) flies ∙ ap (λ (pair : ℕ). Some (pair, index)) (zero-add k),
)
