-- The winners of the verdicts are those that the pairs' own slots show: neither pass changes a winner. Where all pairs are one operator's,
-- all of them are its.
use Rattle.std.proofs.Common.{◌≡◌, refl, ap₂, ◌∙◌, Bool, true, false, List, [], ◌∷◌, ℕ, suc, eqb, map, arith, Option}
use Rattle.std.specs.List.{list_all}
use Rattle.slot.specs.declared.slot.SlotIndex.{SlotIndex}
use Rattle.judge.specs.declared.pairs.Pair.{Pair}
use Rattle.judge.specs.declared.pairs.PairCase.{PairCase}
use Rattle.judge.specs.declared.verdict.PairVerdict.{PairVerdict}
use Rattle.judge.specs.Pairs.{pair_case}
use Rattle.judge.specs.Numbers.{numbers, place, qualifies}
use Rattle.judge.specs.Verdict.{pair_verdict}
use Rattle.judge.specs.Judge.{verdicts_from, first_verdicts, demoted, last_verdicts, row_rules, verdicts}
use Rattle.plan.specs.Numbers.{case_winner, WinnersOfVerdicts, WinnersOfOne}

abbrev winners : List PairVerdict → List (Option SlotIndex)
winners vs = map (λ v. v.winner) vs

pub first_winner : (q : SlotIndex → Option ℕ → Bool) (c : PairCase) → (pair_verdict q c).winner ≡ case_winner c
first_winner q PairCase.Refused = refl
first_winner q PairCase.Lost = refl
first_winner q (PairCase.Won index o) = refl

first_winners : (all : List Pair) (i : ℕ) (ps : List Pair) → winners (verdicts_from all i ps) ≡ map (λ p. case_winner (pair_case p)) ps
first_winners all i [] = refl
first_winners all i (p ∷ ps) =
    ap₂ (λ (w : Option SlotIndex) (ws : List (Option SlotIndex)). w ∷ ws) (first_winner (λ index. qualifies (numbers p.operator all) (place i index)) (pair_case p)) (first_winners all (suc i) ps)

kept : (demote : Bool) (v : PairVerdict) → (demoted demote v).winner ≡ v.winner
kept false v = refl
kept true v = grind arith

last_winners : (volume page : Bool) (vs : List PairVerdict) → winners (last_verdicts volume page vs) ≡ winners vs
last_winners volume page [] = refl
last_winners volume page (v ∷ vs) =
    ap₂ (λ (w : Option SlotIndex) (ws : List (Option SlotIndex)). w ∷ ws) (kept volume v) (last_winners page page vs)

pub winners_of_verdicts : WinnersOfVerdicts
unfolding verdicts first_verdicts
winners_of_verdicts ps clean =
    last_winners (row_rules ps clean).volume_demote (row_rules ps clean).page_demote (verdicts_from ps 0 ps)
    ∙ first_winners ps 0 ps

pub winners_of_one : WinnersOfOne
winners_of_one o [] all = refl
winners_of_one o (p ∷ ps) all =
    let here : eqb p.operator o ≡ true = grind (arith, all) in
    let rest : list_all (λ (q : Pair). eqb q.operator o) ps ≡ true = grind (arith, all) in
    rw (here, winners_of_one o ps rest)
