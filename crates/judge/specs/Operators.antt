-- The operators that share a store (docs/FORMAT.md, "The store verdict"): which are in range, and that one's numbers say nothing of
-- another's candidates.
use Rattle.std.specs.Prelude.{◌≡◌, Bool, true, false, ◌&&◌, List, [], ◌∷◌, ℕ, ◌==◌, nat_le, if◌then◌else◌, map, Option}
use Rattle.std.specs.List.{list_all}
use Rattle.judge.specs.declared.pairs.Shown.{Shown}
use Rattle.judge.specs.declared.pairs.Pair.{Pair}
use Rattle.judge.specs.Pairs.{numbered}
use Rattle.judge.specs.Numbers.{number, numbers, qualifies}

-- The highest operator, and that of the volume record.
abbrev pub most_operator : ℕ
most_operator = 15

abbrev pub volume_operator : ℕ
volume_operator = 0

-- Whether a pair can be of this operator; `volume`: the volume record, which can be of its own alone.
abbrev pub operator_in_range : Bool → ℕ → Bool
operator_in_range volume o = if volume then o == volume_operator else nat_le o most_operator

-- The operators of a row are in range; `volume`: its first pair is the volume record.
abbrev pub operators_in_range : Bool → List Pair → Bool
operators_in_range volume [] = true
operators_in_range volume (p ∷ ps) = operator_in_range volume p.operator && operators_in_range false ps

-- ---- one operator's numbers and another's candidates

-- A pair whose slots are not known if it is the operator's.
abbrev pub without : ℕ → Pair → Pair
without o p = if p.operator == o then record { a = Shown.Other; b = Shown.Other; operator = o } else p

-- In rows that differ in slots of one operator alone the same numbers of another one's candidates qualify. Of verdicts this is not so: a
-- candidate that does not qualify is damage, and beside damage no page is healed.
abbrev pub OperatorsApart : Type 0
OperatorsApart =
    (changed o : ℕ) (ps qs : List Pair) → (changed ≡ o → ⊥) → map (without changed) ps ≡ map (without changed) qs
    → (k : ℕ) (seq : Option ℕ) → qualifies (numbers o ps) k seq ≡ qualifies (numbers o qs) k seq

-- The numbers of all slots of a row, A before B.
abbrev pub all_numbers : List Pair → List ℕ
all_numbers [] = []
all_numbers (p ∷ ps) = number (numbered p.a) ∷ number (numbered p.b) ∷ all_numbers ps

-- Where all pairs are one operator's, its numbers are those of all slots, to which each candidate is held.
abbrev pub OneOperator : Type 0
OneOperator = (o : ℕ) (ps : List Pair) → list_all (λ (p : Pair). p.operator == o) ps ≡ true → numbers o ps ≡ all_numbers ps
