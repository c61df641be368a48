-- Which candidates qualify (docs/FORMAT.md, "The store verdict"): by the numbers of the slots of their operator.
use Rattle.std.specs.Prelude.{Bool, true, List, [], ◌∷◌, ◌++◌, ℕ, suc, ◌+◌, ◌*◌, ◌==◌, max, take, drop, if◌then◌else◌, Option, Some, None}
use Rattle.slot.specs.declared.slot.SlotIndex.{SlotIndex}
use Rattle.judge.specs.declared.pairs.Shown.{Shown}
use Rattle.judge.specs.declared.pairs.Pair.{Pair}
use Rattle.judge.specs.Pairs.{numbered}
use Rattle.judge.specs.Verdict.{by_index}

-- 0 for a slot that is not numbered.
abbrev pub number : Option ℕ → ℕ
number None = 0
number (Some v) = v

-- What a slot of the pair counts for among the slots of an operator: nothing if the pair is another operator's.
abbrev pub number_for : ℕ → Pair → Shown → ℕ
number_for o p s = if p.operator == o then number (numbered s) else 0

-- That of each slot of a row, A before B. Slots of other operators keep their places.
abbrev pub numbers : ℕ → List Pair → List ℕ
numbers o [] = []
numbers o (p ∷ ps) = number_for o p p.a ∷ number_for o p p.b ∷ numbers o ps

-- The place of a slot of the ith pair.
abbrev pub place : ℕ → SlotIndex → ℕ
place i index = by_index index (2 * i) (2 * i + 1)

-- The highest number, 0 if there is none.
abbrev pub highest : List ℕ → ℕ
highest [] = 0
highest (v ∷ vs) = max v (highest vs)

-- The highest among all but the kth.
abbrev pub highest_other : ℕ → List ℕ → ℕ
highest_other k vs = highest (take k vs ++ drop (suc k) vs)

-- The kth slot, a candidate, qualifies if its header checksum fails (its number is not known), or its number is one more than the
-- highest among all other numbered slots of its operator.
-- A write is durable before the next one begins, and takes one more than the highest number of its operator. So a torn payload is that
-- operator's last write only if its number follows the others: a higher one elsewhere shows that it was damaged later, a gap that another
-- slot is damaged.
abbrev pub qualifies : List ℕ → ℕ → Option ℕ → Bool
qualifies vs k None = true
qualifies vs k (Some v) = v == highest_other k vs + 1
