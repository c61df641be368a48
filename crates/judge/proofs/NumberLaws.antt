-- The two highest numbers give the rule of the definition, the highest among all other numbered slots: by induction over the slots, with
-- what they hold of the slots gone through before the candidate's own slot, and after it. Each operator's are those of its own slots.
use Rattle.std.proofs.Common.{◌≡◌, refl, sym, ap, ap₂, ◌∙◌, Bool, true, false, cond, List, [], ◌∷◌, ℕ, zero, suc, ◌+◌, ◌≤◌, ◌<◌, max, arith, eqb, eqb-true, ne_eqb, ltb, ltb-true, length, get_or, set, Some}
use Rattle.std.proofs.lemmas.List.{get_or-set_same, get_or-set_other, get_or-replicate, get_or_past, length-set}
use Rattle.judge.specs.declared.pairs.Pair.{Pair}
use Rattle.judge.specs.declared.numbers.Maxima.{Maxima}
use Rattle.judge.specs.declared.numbers.OperatorMaxima.{OperatorMaxima}
use Rattle.judge.specs.declared.numbers.OwnMaxima.{OwnMaxima}
use Rattle.judge.specs.Pairs.{numbered}
use Rattle.judge.specs.Numbers.{number, number_for, numbers, highest, highest_other, qualifies}
use Rattle.judge.specs.Operators.{operator_in_range, operators_in_range}
use Rattle.slot.proofs.Tests.{both}
use Rattle.judge.specs.Maxima.{no_maxima, note, note_all, no_operator_maxima, no_own, maxima_of, note_two, note_own, note_pairs, others_max, qualifies_by}

-- v was noted, and h is the highest of the others.
record Held (v : ℕ) (m : Maxima) (h : ℕ) : Type 0 where
  first : m.first ≡ max v h
  second : h ≤ v → m.second ≡ h

held-others : (v : ℕ) (m : Maxima) (h : ℕ) → Held v m h → others_max m v ≡ h
held-others v m h held = grind (arith, held.first, held.second)

held_all : (v : ℕ) (vs : List ℕ) (m : Maxima) (h : ℕ) → Held v m h → others_max (note_all m vs) v ≡ max h (highest vs)
held_all v [] m h held = held-others v m h held ∙ omega arith
held_all v (x ∷ vs) m h held =
    held_all v vs (note m x) (max h x)
    (record { first = omega (arith, held.first); second = λ within. omega (arith, held.first, held.second) })
    ∙ omega arith

-- The kth of the numbers is v.
pub data At : ℕ → List ℕ → ℕ → Type 0 where
  here : {v : ℕ} {vs : List ℕ} → At zero (v ∷ vs) v
  there : {k : ℕ} {x v : ℕ} {vs : List ℕ} → At k vs v → At (suc k) (x ∷ vs) v

-- Before it: h is the highest that was noted.
others-from : (k : ℕ) (vs : List ℕ) (v : ℕ) (m : Maxima) (h : ℕ)
    → At k vs v → m.first ≡ h → m.second ≤ h → others_max (note_all m vs) v ≡ max h (highest_other k vs)
others-from k₀ vs₀ v m h (here {vs = vs}) first second =
    held_all v vs (note m v) h (record { first = omega arith; second = λ within. omega arith })
others-from k₀ vs₀ v m h (there {k = k} {x = x} {vs = vs} at) first second =
    others-from k vs v (note m x) (max h x) at (omega arith) (omega arith) ∙ omega arith

pub others-same : (k : ℕ) (vs : List ℕ) (v : ℕ) → At k vs v → others_max (note_all no_maxima vs) v ≡ highest_other k vs
others-same k vs v at = others-from k vs v no_maxima 0 at refl (omega arith) ∙ omega arith

-- A slot's number qualifies by the code's rule if and only if it does by the definition.
pub qualifies-same : (k : ℕ) (vs : List ℕ) (v : ℕ) → At k vs v → qualifies_by (note_all no_maxima vs) (Some v) ≡ qualifies vs k (Some v)
qualifies-same k vs v at = ap (λ (most : ℕ). eqb v (most + 1)) (others-same k vs v at)

-- ---- of each operator

note-none : (m : Maxima) → note (note m 0) 0 ≡ m
note-none m = ap₂ (λ (a b : ℕ). record { first = a; second = b }) (omega arith) (omega arith)

-- Of another pair's operator nothing is noted.
noted-for : (c : OperatorMaxima) (o : ℕ) (p : Pair) → o < length c.maxima
    → maxima_of (note_two c p.operator (number (numbered p.a)) (number (numbered p.b))) o ≡ note (note (maxima_of c o) (number_for o p p.a)) (number_for o p p.b)
noted-for c o p within = go (eqb p.operator o) refl
  where
    x : ℕ
    x = number (numbered p.a)

    y : ℕ
    y = number (numbered p.b)

    go : (own : Bool) → eqb p.operator o ≡ own
        → get_or (set c.maxima p.operator (note (note (maxima_of c p.operator) x) y)) o no_maxima ≡ note (note (maxima_of c o) (cond own x 0)) (cond own y 0)
    go true is = rw (eqb-true p.operator o is) (get_or-set_same c.maxima o (note (note (maxima_of c o) x) y) no_maxima within)
    go false is =
        let other : o ≡ p.operator → ⊥ = grind (arith, is) in
        get_or-set_other c.maxima p.operator o (note (note (maxima_of c p.operator) x) y) no_maxima other ∙ sym (note-none (maxima_of c o))

length-noted : (c : OperatorMaxima) (ps : List Pair) → length (note_pairs note_two c ps).maxima ≡ length c.maxima
length-noted c [] = refl
length-noted c (p ∷ ps) = length-noted (note_two c p.operator (number (numbered p.a)) (number (numbered p.b))) ps ∙ length-set _ _ _

-- The operators of a row are below 16.
in-range : (volume : Bool) (o : ℕ) → operator_in_range volume o ≡ true → o < 16
in-range true o is = grind (arith, is)
in-range false o is = grind (arith, is)

maxima-from : (c : OperatorMaxima) (o : ℕ) (ps : List Pair) → o < length c.maxima → maxima_of (note_pairs note_two c ps) o ≡ note_all (maxima_of c o) (numbers o ps)
maxima-from c o [] within = refl
maxima-from c o (p ∷ ps) within =
    maxima-from (note_two c p.operator (number (numbered p.a)) (number (numbered p.b))) o ps (rw length-set within)
    ∙ ap (λ (m : Maxima). note_all m (numbers o ps)) (noted-for c o p within)

-- Of an operator that no pair is of, nothing is noted.
none-noted : (o : ℕ) (volume : Bool) (ps : List Pair) → operators_in_range volume ps ≡ true → 16 ≤ o → note_all no_maxima (numbers o ps) ≡ no_maxima
none-noted o volume [] range above = refl
none-noted o volume (p ∷ ps) range above =
    let known = both (operator_in_range volume p.operator) (operators_in_range false ps) range in
    let below = in-range volume p.operator known.0 in
    let other : p.operator ≡ o → ⊥ = omega arith in
    rw (ne_eqb p.operator o other) (none-noted o false ps known.1 above)

-- Where the operators of a row are in range.
pub maxima-same : (o : ℕ) (ps : List Pair) → operators_in_range true ps ≡ true
    → maxima_of (note_pairs note_two no_operator_maxima ps) o ≡ note_all no_maxima (numbers o ps)
maxima-same o ps range = go (ltb o 16) refl
  where
    go : (within : Bool) → ltb o 16 ≡ within → maxima_of (note_pairs note_two no_operator_maxima ps) o ≡ note_all no_maxima (numbers o ps)
    go true is =
        let within = ltb-true o 16 is in
        maxima-from no_operator_maxima o ps within ∙ ap (λ (m : Maxima). note_all m (numbers o ps)) (get_or-replicate 16 o no_maxima no_maxima within)
    go false is =
        let above : 16 ≤ o = grind (arith, is) in
        get_or_past (note_pairs note_two no_operator_maxima ps).maxima o no_maxima (rw (length-noted no_operator_maxima ps) above) ∙ sym (none-noted o true ps range above)

-- ---- of one operator

own-step : (c : OwnMaxima) (p : Pair)
    → (note_own c p.operator (number (numbered p.a)) (number (numbered p.b)))
    ≡ record { operator = c.operator; maxima = note (note c.maxima (number_for c.operator p p.a)) (number_for c.operator p p.b) }
own-step c p = go (eqb p.operator c.operator)
  where
    noted : Maxima → OwnMaxima
    noted m = record { operator = c.operator; maxima = m }

    go : (own : Bool)
        → cond own (noted (note (note c.maxima (number (numbered p.a))) (number (numbered p.b)))) c
        ≡ noted (note (note c.maxima (cond own (number (numbered p.a)) 0)) (cond own (number (numbered p.b)) 0))
    go true = refl
    go false = ap noted (sym (note-none c.maxima))

own-from : (c : OwnMaxima) (ps : List Pair) → (note_pairs note_own c ps).maxima ≡ note_all c.maxima (numbers c.operator ps)
own-from c [] = refl
own-from c (p ∷ ps) =
    ap (λ (d : OwnMaxima). (note_pairs note_own d ps).maxima) (own-step c p)
    ∙ own-from (record { operator = c.operator; maxima = note (note c.maxima (number_for c.operator p p.a)) (number_for c.operator p p.b) }) ps

pub own_same : (o : ℕ) (ps : List Pair)
    → (note_pairs note_own (no_own o) ps).maxima ≡ note_all no_maxima (numbers o ps)
own_same o ps = own-from (no_own o) ps
