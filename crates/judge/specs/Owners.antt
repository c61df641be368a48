-- Which owners wrote the winners (docs/FORMAT.md, "The store verdict"): a slot's header holds the owner generation that it was written
-- with.
use Rattle.std.specs.Prelude.{Bool, false, not, ◌||◌, List, [], ◌∷◌, ℕ, ◌==◌, Option}
use Rattle.std.specs.Option.{option_map, option_and_then}
use Rattle.std.specs.List.{list_any, filter_map, zip}
use Rattle.slot.specs.declared.slot.SlotIndex.{SlotIndex}
use Rattle.judge.specs.declared.pairs.Pair.{Pair}
use Rattle.judge.specs.declared.verdict.PairVerdict.{PairVerdict}
use Rattle.judge.specs.Pairs.{valid}
use Rattle.judge.specs.Verdict.{by_index}

-- The owner generation of a pair's winner, which is Valid; that of the other slot does not count.
abbrev pub owner : Pair → Option SlotIndex → Option ℕ
owner p winner = option_and_then (λ index. option_map (λ v. v.owner_generation) (valid (by_index index p.a p.b))) winner

-- Those of a row's winners.
abbrev pub owners : List Pair → List PairVerdict → List ℕ
owners ps vs = filter_map (λ pair. owner pair.0 pair.1.winner) (zip ps vs)

-- Two of them, any two, are different.
abbrev pub any_two_differ : List ℕ → Bool
any_two_differ [] = false
any_two_differ (o ∷ os) = list_any (λ other. not (other == o)) os || any_two_differ os
