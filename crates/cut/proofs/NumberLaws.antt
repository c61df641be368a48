-- A number one above its operator's highest qualifies in the written slot: the slot's old number is not above its pair's other one, so the
-- highest among all other slots of the operator is that of all of them.
use Rattle.std.proofs.Common.{◌≡◌, refl, ap, ap₂, ◌∙◌, true, List, [], ◌∷◌, ◌++◌, ℕ, suc, ◌+◌, ◌*◌, ◌≤◌, max, arith, eq-eqb, length, take, drop, Some}
use Rattle.std.proofs.Math.Seq.{take-append-add, drop-append-add}
use Rattle.slot.specs.Status.{other}
use Rattle.slot.specs.declared.slot.SlotIndex.{SlotIndex}
use Rattle.judge.specs.Verdict.{by_index}
use Rattle.judge.specs.Numbers.{number_for, numbers, place, highest, highest_other, qualifies}
use Rattle.cut.specs.Store.{Pair, shown}
use Rattle.cut.proofs.PairLaws.{shown_pair, shown_slot, number_at}

highest_append : (xs ys : List ℕ) → highest (xs ++ ys) ≡ max (highest xs) (highest ys)
highest_append [] ys = omega arith
highest_append (x ∷ xs) ys = let rest = highest_append xs ys in omega arith

-- A pair counts for its own operator.
own_number : (o : ℕ) (p : Pair) (index : SlotIndex) → p.operator ≡ o → number_for o (shown_pair p) (by_index index (shown_slot p.a) (shown_slot p.b)) ≡ number_at index p
own_number o p SlotIndex.A own = rw (eq-eqb p.operator o own) refl
own_number o p SlotIndex.B own = rw (eq-eqb p.operator o own) refl

numbers_row : (o : ℕ) (before : List Pair) (p : Pair) (behind : List Pair) → p.operator ≡ o
    → numbers o (shown (before ++ p ∷ behind)) ≡ numbers o (shown before) ++ (number_at SlotIndex.A p ∷ number_at SlotIndex.B p ∷ numbers o (shown behind))
numbers_row o [] p behind own =
    ap₂ (λ (x y : ℕ). x ∷ y ∷ numbers o (shown behind)) (own_number o p SlotIndex.A own) (own_number o p SlotIndex.B own)
numbers_row o (q ∷ before) p behind own =
    ap (λ (vs : List ℕ). number_for o (shown_pair q) (shown_slot q.a) ∷ number_for o (shown_pair q) (shown_slot q.b) ∷ vs) (numbers_row o before p behind own)

length_numbers : (o : ℕ) (ps : List Pair) → length (numbers o (shown ps)) ≡ 2 * length ps
length_numbers o [] = refl
length_numbers o (p ∷ ps) = let rest = length_numbers o ps in omega arith

others_behind : (xs ys : List ℕ) (n k : ℕ) → k ≡ length xs + n
    → highest_other k (xs ++ ys) ≡ max (highest xs) (max (highest (take n ys)) (highest (drop (suc n) ys)))
others_behind xs ys n k is =
    let next : suc k ≡ length xs + suc n = omega arith in
    let joined = highest_append (take k (xs ++ ys)) (drop (suc k) (xs ++ ys)) in
    let front : highest (take k (xs ++ ys)) ≡ highest (xs ++ take n ys) =
    ap (λ (m : ℕ). highest (take m (xs ++ ys))) is ∙ ap highest (take-append-add xs ys n) in
    let back : highest (drop (suc k) (xs ++ ys)) ≡ highest (drop (suc n) ys) =
    ap (λ (m : ℕ). highest (drop m (xs ++ ys))) next ∙ ap highest (drop-append-add xs ys (suc n)) in
    let front_joined = highest_append xs (take n ys) in
    omega arith

module _ (o : ℕ) (before : List Pair) (p : Pair) (behind : List Pair) (own : p.operator ≡ o) where
  abbrev pub others : ℕ → ℕ
  others n = max (highest (numbers o (shown before))) (max n (highest (numbers o (shown behind))))

  highest_row : (index : SlotIndex) → number_at index p ≤ number_at (other index) p
      → highest (numbers o (shown (before ++ p ∷ behind))) ≡ others (number_at (other index) p)
  highest_row index below =
      ap highest (numbers_row o before p behind own)
      ∙ highest_append (numbers o (shown before)) (number_at SlotIndex.A p ∷ number_at SlotIndex.B p ∷ numbers o (shown behind))
      ∙ go index below
    where
      go : (index : SlotIndex) → number_at index p ≤ number_at (other index) p
          → max (highest (numbers o (shown before))) (highest (number_at SlotIndex.A p ∷ number_at SlotIndex.B p ∷ numbers o (shown behind)))
          ≡ others (number_at (other index) p)
      go SlotIndex.A below = omega arith
      go SlotIndex.B below = omega arith

  pub others_row : (index : SlotIndex)
      → highest_other (place (length before) index) (numbers o (shown (before ++ p ∷ behind))) ≡ others (number_at (other index) p)
  others_row SlotIndex.A =
      let all =
      others_behind (numbers o (shown before)) (number_at SlotIndex.A p ∷ number_at SlotIndex.B p ∷ numbers o (shown behind)) 0 (2 * length before)
      (omega (arith, length_numbers o before)) in
      ap (highest_other (2 * length before)) (numbers_row o before p behind own) ∙ omega arith
  others_row SlotIndex.B =
      let all =
      others_behind (numbers o (shown before)) (number_at SlotIndex.A p ∷ number_at SlotIndex.B p ∷ numbers o (shown behind)) 1 (2 * length before + 1)
      (omega (arith, length_numbers o before)) in
      ap (highest_other (2 * length before + 1)) (numbers_row o before p behind own) ∙ omega arith

  -- No number of a pair is above its operator's highest.
  pub in_highest : (index : SlotIndex) → number_at index p ≤ highest (numbers o (shown (before ++ p ∷ behind)))
  in_highest index =
      let row = ap highest (numbers_row o before p behind own) in
      let joined = highest_append (numbers o (shown before)) (number_at SlotIndex.A p ∷ number_at SlotIndex.B p ∷ numbers o (shown behind)) in
      go index (omega (arith, row, joined))
    where
      go : (index : SlotIndex) → max (number_at SlotIndex.A p) (number_at SlotIndex.B p) ≤ highest (numbers o (shown (before ++ p ∷ behind)))
          → number_at index p ≤ highest (numbers o (shown (before ++ p ∷ behind)))
      go SlotIndex.A below = omega arith
      go SlotIndex.B below = omega arith

-- p before the write and q after it, of the same operator, have the same number in the slot that was not written.
pub write_qualifies : (o : ℕ) (before : List Pair) (p q : Pair) (behind : List Pair) (index : SlotIndex) → p.operator ≡ o → q.operator ≡ o
    → number_at (other index) q ≡ number_at (other index) p → number_at index p ≤ number_at (other index) p
    → (m : ℕ) → m ≡ highest (numbers o (shown (before ++ p ∷ behind))) + 1
    → qualifies (numbers o (shown (before ++ q ∷ behind))) (place (length before) index) (Some m) ≡ true
write_qualifies o before p q behind index own own_after kept below m is =
    let after = others_row o before q behind own_after index in
    let first = highest_row o before p behind own index below in
    eq-eqb m (highest_other (place (length before) index) (numbers o (shown (before ++ q ∷ behind))) + 1) (omega (arith, is, after, first, kept))
