-- The first pass as the code makes it is the definition's: a candidate's number is the one that its slot counts for, so the code's rule and
-- the definition's agree on every pair; and the tally kept from pair to pair is that of the row.
use Rattle.std.proofs.Common.{◌≡◌, refl, ◌∙◌, subst, Bool, true, false, cond, ◌||◌, List, [], ◌∷◌, ℕ, suc, ◌+◌, ◌*◌, add-zero, zero-add, arith, eqb, eq-eqb, Option, Some, None}
use Rattle.std.proofs.Math.Bool.{or_assoc, or-false}
use Rattle.std.specs.Option.{option_or}
use Rattle.slot.specs.declared.slot.SlotIndex.{SlotIndex}
use Rattle.slot.specs.Status.{other}
use Rattle.judge.specs.declared.pairs.Version.{Version}
use Rattle.judge.specs.declared.pairs.Shown.{Shown}
use Rattle.judge.specs.declared.pairs.Pair.{Pair}
use Rattle.judge.specs.declared.pairs.Opposite.{Opposite}
use Rattle.judge.specs.declared.pairs.PairCase.{PairCase}
use Rattle.judge.specs.declared.numbers.OperatorMaxima.{OperatorMaxima}
use Rattle.judge.specs.declared.verdict.PairVerdict.{PairVerdict}
use Rattle.judge.specs.declared.verdict.Tally.{Tally}
use Rattle.judge.specs.Pairs.{numbered, opposite, is_unsupported, valid, winner, pair_case}
use Rattle.judge.specs.Numbers.{number_for, numbers, place, qualifies}
use Rattle.judge.specs.Operators.{operators_in_range}
use Rattle.judge.specs.Maxima.{no_maxima, note_all, no_operator_maxima, note_two, note_pairs, qualifies_by, by_maxima}
use Rattle.judge.specs.Verdict.{by_index, slot_verdict, pair_verdict, in_flight}
use Rattle.judge.specs.Judge.{verdicts_from, first_verdicts, candidates, any_candidate, any_trouble, any_refused, first_tally, pair_heal, heal}
use Rattle.judge.specs.Passes.{verdict_by, verdicts_by, no_tally, tallied, tallies, heals}
use Rattle.judge.proofs.NumberLaws.{At, qualifies-same, maxima-same}

-- ---- a candidate's number is the one that its slot counts for

opposite-number : (index : SlotIndex) (w : Version) (s : Shown) (v : ℕ) → opposite index w s ≡ Opposite.Candidate (Some v) → numbered s ≡ Some v
opposite-number index w (Shown.Valid o) v is = cc
opposite-number index w (Shown.BadPayload o) v is = grind (arith, is)
opposite-number index w (Shown.BadHeader stored) v is = grind (arith, is)
opposite-number SlotIndex.A w Shown.Blank v is = grind (arith, is)
opposite-number SlotIndex.B w Shown.Blank v is = cc
opposite-number index w Shown.Unsupported v is = cc
opposite-number index w Shown.Other v is = cc

-- ---- rules that agree on the numbers of a pair's slots give it the same verdict

module _ (q r : SlotIndex → Option ℕ → Bool) (p : Pair)
    (unread : (index : SlotIndex) → q index None ≡ r index None)
    (agree : (index : SlotIndex) (v : ℕ) → numbered (by_index index p.a p.b) ≡ Some v → q index (Some v) ≡ r index (Some v)) where
  agree_on : (index won : SlotIndex) (w : Version) (seq : Option ℕ)
      → opposite won w (by_index index p.a p.b) ≡ Opposite.Candidate seq → q index seq ≡ r index seq
  agree_on index won w None is = unread index
  agree_on index won w (Some v) is = agree index v (opposite-number won w (by_index index p.a p.b) v is)

  beside : (won : SlotIndex) (w : Version) (o : Opposite) → opposite won w (by_index (other won) p.a p.b) ≡ o
      → slot_verdict (q (other won)) o ≡ slot_verdict (r (other won)) o
  beside won w Opposite.Nothing is = refl
  beside won w Opposite.OlderDamaged is = refl
  beside won w (Opposite.Candidate seq) is = simp (agree_on (other won) won w seq is)
  beside won w Opposite.Damage is = refl

  verdict-same : pair_verdict q (pair_case p) ≡ pair_verdict r (pair_case p)
  verdict-same = go (is_unsupported p.a || is_unsupported p.b) (valid p.a) (valid p.b)
    where
      go : (none : Bool) (a b : Option Version)
          → pair_verdict q (cond none PairCase.Refused (winner p a b)) ≡ pair_verdict r (cond none PairCase.Refused (winner p a b))
      go true a b = refl
      go false None None = refl
      go false (Some a) None = simp (beside SlotIndex.A a (opposite SlotIndex.A a p.b) refl)
      go false None (Some b) = simp (beside SlotIndex.B b (opposite SlotIndex.B b p.a) refl)
      go false (Some a) (Some b) = grind arith

verdicts-from : (all : List Pair) → operators_in_range true all ≡ true → (i : ℕ) (ps : List Pair)
    → ((o j v : ℕ) → At j (numbers o ps) v → At (2 * i + j) (numbers o all) v)
    → verdicts_by (note_pairs note_two no_operator_maxima all) ps ≡ verdicts_from all i ps
verdicts-from all range i [] within = refl
verdicts-from all range i (p ∷ ps) within =
    let maxima = maxima-same p.operator all range in
    let here =
    verdict-same (by_maxima (note_all no_maxima (numbers p.operator all))) (λ index. qualifies (numbers p.operator all) (place i index)) p (λ index. refl)
    agree in
    let rest =
    verdicts-from all range (suc i) ps
    (λ o j v at. subst (λ (k : ℕ). At k (numbers o all) v) (next i j) (within o (suc (suc j)) v (At.there (At.there at)))) in
    rw (maxima, here, rest)
  where
    next : (i j : ℕ) → 2 * i + suc (suc j) ≡ 2 * suc i + j
    next i j = omega arith

    first : (i : ℕ) → 2 * i + 0 ≡ 2 * i
    first i = omega arith

    own : eqb p.operator p.operator ≡ true
    own = eq-eqb p.operator p.operator refl

    agree : (index : SlotIndex) (v : ℕ) → numbered (by_index index p.a p.b) ≡ Some v
        → qualifies_by (note_all no_maxima (numbers p.operator all)) (Some v) ≡ qualifies (numbers p.operator all) (place i index) (Some v)
    agree SlotIndex.A v is =
        let counts : number_for p.operator p p.a ≡ v = simp (own, is) in
        let here : At 0 (numbers p.operator (p ∷ ps)) v = subst (λ (n : ℕ). At 0 (numbers p.operator (p ∷ ps)) n) counts At.here in
        qualifies-same (2 * i) (numbers p.operator all) v (rw (first i) at (within p.operator 0 v here))
    agree SlotIndex.B v is =
        let counts : number_for p.operator p p.b ≡ v = simp (own, is) in
        let here : At 1 (numbers p.operator (p ∷ ps)) v = subst (λ (n : ℕ). At 1 (numbers p.operator (p ∷ ps)) n) counts (At.there At.here) in
        qualifies-same (2 * i + 1) (numbers p.operator all) v (within p.operator 1 v here)

pub verdicts-same : (ps : List Pair) → operators_in_range true ps ≡ true → verdicts_by (note_pairs note_two no_operator_maxima ps) ps ≡ first_verdicts ps
unfolding first_verdicts
verdicts-same ps range = verdicts-from ps range 0 ps (λ o j v at. subst (λ (k : ℕ). At k (numbers o ps) v) (from_first j) at)
  where
    from_first : (j : ℕ) → j ≡ 2 * 0 + j
    from_first j = omega arith

-- ---- its tally

count-first : (n : ℕ) (v : PairVerdict) (vs : List PairVerdict) → cond (in_flight v) (n + 1) n + candidates vs ≡ n + candidates (v ∷ vs)
count-first n v vs = grind arith

tallies-from : (c : OperatorMaxima) (t : Tally) (ps : List Pair)
    → tallies c false t ps
    ≡ record {
      candidates = t.candidates + candidates (verdicts_by c ps);
      page_had_candidate = t.page_had_candidate || any_candidate ps;
      troubled = t.troubled || any_trouble (verdicts_by c ps);
      refused = t.refused || any_refused (verdicts_by c ps);
    }
tallies-from c t [] = simp (add-zero, or-false)
tallies-from c t (p ∷ ps) = tallies-from c (tallied t false (pair_case p) (verdict_by c p)) ps ∙ simp (or_assoc, count-first)

pub tally-same : (c : OperatorMaxima) (ps : List Pair) → tallies c true no_tally ps ≡ first_tally ps (verdicts_by c ps)
unfolding first_tally
tally-same c [] = refl
tally-same c (p ∷ ps) = tallies-from c (tallied no_tally true (pair_case p) (verdict_by c p)) ps ∙ rw (count-first, zero-add)

-- ---- the slot to heal

or-assoc : {T : Type 0} (x y z : Option T) → option_or x (option_or y z) ≡ option_or (option_or x y) z
or-assoc None y z = refl
or-assoc (Some x) y z = refl

pub or-last : {T : Type 0} (x : Option T) → option_or x None ≡ x
or-last None = refl
or-last (Some x) = refl

pub heals-from : (i : ℕ) (before : Option (ℕ × SlotIndex)) (vs : List PairVerdict) → heals i before vs ≡ option_or (heal i vs) before
heals-from i before [] = refl
heals-from i before (v ∷ vs) = heals-from (i + 1) (option_or (pair_heal i v) before) vs ∙ or-assoc (heal (i + 1) vs) (pair_heal i v) before

pub heals-same : (vs : List PairVerdict) → heals 0 None vs ≡ heal 0 vs
heals-same vs = heals-from 0 None vs ∙ or-last (heal 0 vs)
