-- The rule by which the code finds the highest of the other numbers (docs/FORMAT.md, "The store verdict"): for each operator the two
-- highest of all. So one pass over the pairs answers for every candidate. That it gives the same as `qualifies` of Numbers.antt is a law
-- (proofs/NumberLaws.antt).
use Rattle.std.specs.Prelude.{Bool, true, List, [], ◌∷◌, ℕ, ◌+◌, ◌==◌, max, min, if◌then◌else◌, get_or, set, replicate, Option, Some, None}
use Rattle.slot.specs.declared.slot.SlotIndex.{SlotIndex}
use Rattle.judge.specs.declared.pairs.Pair.{Pair}
use Rattle.judge.specs.declared.numbers.Maxima.{Maxima}
use Rattle.judge.specs.declared.numbers.OperatorMaxima.{OperatorMaxima}
use Rattle.judge.specs.declared.numbers.OwnMaxima.{OwnMaxima}
use Rattle.judge.specs.Pairs.{numbered}
use Rattle.judge.specs.Numbers.{number, numbers}

abbrev pub no_maxima : Maxima
no_maxima = record { first = 0; second = 0 }

-- A slot that is not numbered counts 0.
abbrev pub note : Maxima → ℕ → Maxima
note m v = record { first = max m.first v; second = max m.second (min m.first v) }

abbrev pub note_all : Maxima → List ℕ → Maxima
note_all m [] = m
note_all m (v ∷ vs) = note_all (note m v) vs

-- Of an operator's slots in a row.
abbrev pub two_highest : ℕ → List Pair → Maxima
two_highest o ps = note_all no_maxima (numbers o ps)

-- ---- of each operator, and of one

abbrev pub no_operator_maxima : OperatorMaxima
no_operator_maxima = record { maxima = replicate 16 no_maxima }

abbrev pub maxima_of : OperatorMaxima → ℕ → Maxima
maxima_of c o = get_or c.maxima o no_maxima

abbrev pub no_own : ℕ → OwnMaxima
no_own o = record { operator = o; maxima = no_maxima }

-- Both numbers of a pair are noted for its operator,
abbrev pub note_two : OperatorMaxima → ℕ → ℕ → ℕ → OperatorMaxima
note_two c o x y = record { maxima = set c.maxima o (note (note (maxima_of c o) x) y) }

-- or where that is this one.
abbrev pub note_own : OwnMaxima → ℕ → ℕ → ℕ → OwnMaxima
note_own c o x y = if o == c.operator then record { operator = c.operator; maxima = note (note c.maxima x) y } else c

-- Pair by pair.
abbrev pub note_pairs : {C : Type 0} → (C → ℕ → ℕ → ℕ → C) → C → List Pair → C
note_pairs note c [] = c
note_pairs note c (p ∷ ps) = note_pairs note (note c p.operator (number (numbered p.a)) (number (numbered p.b))) ps

-- ---- the rule

-- The highest but for one slot that holds v.
abbrev pub others_max : Maxima → ℕ → ℕ
others_max m v = if v == m.first then m.second else m.first

abbrev pub qualifies_by : Maxima → Option ℕ → Bool
qualifies_by m None = true
qualifies_by m (Some v) = v == others_max m v + 1

-- The same rule for both slots of a pair.
abbrev pub by_maxima : Maxima → SlotIndex → Option ℕ → Bool
by_maxima m index = qualifies_by m
