-- The numbers of the writes to come (docs/FORMAT.md, "What a correct write is").
use Rattle.std.specs.Prelude.{◌≡◌, Bool, true, false, List, [], ◌∷◌, ℕ, ◌+◌, ◌-◌, ◌^◌, ◌==◌, nat_lt, max, map, if◌then◌else◌, Option, Some, None, Result, Ok, Err}
use Rattle.slot.specs.declared.slot.SlotIndex.{SlotIndex}
use Rattle.judge.specs.Pairs.{numbered, pair_case}
use Rattle.std.specs.List.{list_all}
use Rattle.judge.specs.Numbers.{number, numbers, highest}
use Rattle.judge.specs.Operators.{operator_in_range}
use Rattle.judge.specs.Verdict.{by_index}
use Rattle.judge.specs.Judge.{verdicts}
use Rattle.judge.specs.Frames.{row, refusal}
use Rattle.judge.specs.declared.pairs.Pair.{Pair}
use Rattle.judge.specs.declared.pairs.PairCase.{PairCase}
use Rattle.plan.specs.declared.error.PlanError.{PlanError}
use Rattle.plan.specs.Error.{unless_refused}

-- One above a number; none is above 2^64 - 1.
abbrev pub after : ℕ → Result ℕ PlanError
after n = if nat_lt n (2 ^ 64 - 1) then Ok (n + 1) else Err PlanError.UsedUp

-- ---- the numbers of the winners

abbrev pub case_winner : PairCase → Option SlotIndex
case_winner (PairCase.Won index o) = Some index
case_winner PairCase.Refused = None
case_winner PairCase.Lost = None

-- The number of the slot at an index, 0 without one.
abbrev pub number_by : Option SlotIndex → Pair → ℕ
number_by (Some index) p = number (numbered (by_index index p.a p.b))
number_by None p = 0

abbrev pub winner_number : Pair → ℕ
winner_number p = number_by (case_winner (pair_case p)) p

-- 0 as well if the pair is another operator's.
abbrev pub winner_for : ℕ → Pair → ℕ
winner_for o p = if p.operator == o then winner_number p else 0

-- The highest number of an operator's winners.
abbrev pub highest_winner : ℕ → List Pair → ℕ
highest_winner o [] = 0
highest_winner o (p ∷ ps) = max (winner_for o p) (highest_winner o ps)

-- These are the winners of the verdicts, whatever the mark.
abbrev pub WinnersOfVerdicts : Type 0
WinnersOfVerdicts = (ps : List Pair) (clean : Bool) → map (λ v. v.winner) (verdicts ps clean) ≡ map (λ p. case_winner (pair_case p)) ps

-- Where all pairs are one operator's, its highest winner is the highest of all.
abbrev pub WinnersOfOne : Type 0
WinnersOfOne =
    (o : ℕ) (ps : List Pair) → list_all (λ (p : Pair). p.operator == o) ps ≡ true → highest_winner o ps ≡ highest (map winner_number ps)

-- ---- the numbers; functions that are handed no mark ask with 0

-- For an operator that there is.
abbrev pub of_operator : ℕ → Result ℕ PlanError → Result ℕ PlanError
of_operator o answer = if operator_in_range false o then answer else Err PlanError.NoOperator

-- Of an operator's next write: one above the highest of its numbered slots, 1 where there is none.
unfoldable pub next_number : List ℕ → ℕ → Result ℕ PlanError
next_number s o = unless_refused (refusal s 0) (of_operator o (after (highest (numbers o (row s)))))

-- Of its write that heals, in a history of writes: one above the numbers of its winners, 1 where there is none.
unfoldable pub heal_number : List ℕ → ℕ → Result ℕ PlanError
heal_number s o = unless_refused (refusal s 0) (of_operator o (after (highest_winner o (row s))))
