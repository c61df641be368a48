-- What a row counts for an operator does not hang on the slots of another one.
use Rattle.std.proofs.Common.{◌≡◌, refl, sym, ap, ◌∙◌, Bool, true, false, cond, List, [], ◌∷◌, ℕ, map, arith, eqb, eqb-true, ne_eqb}
use Rattle.std.specs.List.{list_all}
use Rattle.judge.specs.declared.pairs.Shown.{Shown}
use Rattle.judge.specs.declared.pairs.Pair.{Pair}
use Rattle.judge.specs.Numbers.{number_for, numbers, qualifies}
use Rattle.judge.specs.Operators.{without, OperatorsApart, OneOperator}

-- ---- another operator's slots

abbrev two : ℕ → Pair → List ℕ
two o p = number_for o p p.a ∷ number_for o p p.b ∷ []

without-two : (changed o : ℕ) (p : Pair) → (changed ≡ o → ⊥) → two o (without changed p) ≡ two o p
without-two changed o p other = go (eqb p.operator changed) refl
  where
    left_out : Pair
    left_out = record { a = Shown.Other; b = Shown.Other; operator = changed }

    go : (same : Bool) → eqb p.operator changed ≡ same → two o (cond same left_out p) ≡ two o p
    go true is =
        let there = eqb-true p.operator changed is in
        let apart = ne_eqb p.operator o (λ own. other (sym there ∙ own)) in
        let no_other = ne_eqb changed o other in
        simp (apart, no_other)
    go false is = refl

numbers-without : (changed o : ℕ) (ps : List Pair) → (changed ≡ o → ⊥) → numbers o (map (without changed) ps) ≡ numbers o ps
numbers-without changed o [] other = refl
numbers-without changed o (p ∷ ps) other =
    let here = without-two changed o p other in
    let rest = numbers-without changed o ps other in
    cc

pub operators_apart : OperatorsApart
operators_apart changed o ps qs other same k seq =
    ap (λ (vs : List ℕ). qualifies vs k seq)
    (sym (numbers-without changed o ps other) ∙ ap (numbers o) same ∙ numbers-without changed o qs other)

-- ---- one operator alone

pub one_operator : OneOperator
one_operator o [] all = refl
one_operator o (p ∷ ps) all =
    let here : eqb p.operator o ≡ true = grind (arith, all) in
    let rest : list_all (λ (q : Pair). eqb q.operator o) ps ≡ true = grind (arith, all) in
    rw (here, one_operator o ps rest)
