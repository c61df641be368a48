-- What is kept of a verdict (docs/FORMAT.md, "The store verdict") is read back, and so many verdicts fit.
use Rattle.std.proofs.Common.{◌≡◌, refl, true, ℕ, zero, suc, ◌*◌, eqb, eqb-true, arith, List, [], ◌∷◌, length, Option, Some, None}
use Rattle.slot.specs.declared.slot.SlotIndex.{SlotIndex}
use Rattle.judge.specs.declared.verdict.SlotVerdict.{SlotVerdict}
use Rattle.judge.specs.declared.verdict.Standing.{Standing}
use Rattle.judge.specs.declared.verdict.PairVerdict.{PairVerdict}
use Rattle.slot.specs.Numbers.{choice_number}
use Rattle.judge.specs.Values.{standing_number, standing_from, choice_from, slot_verdict_number, slot_verdict_from, heal_slot, heal_pair, heal_from, NumbersBack}
use Rattle.judge.specs.Frames.{verdict_width, verdict_bytes, verdict_from, verdict_cells}

standing-back : (s : Standing) → standing_from (standing_number s) ≡ s
standing-back s = grind arith

winner-back : (w : Option SlotIndex) → choice_from (choice_number w) ≡ w
winner-back w = grind arith

slot-back : (v : SlotVerdict) → slot_verdict_from (slot_verdict_number v) ≡ v
slot-back v = grind arith

heal-back : (h : Option (ℕ × SlotIndex)) → heal_from (heal_slot h) (heal_pair h) ≡ h
heal-back None = refl
heal-back (Some (k, SlotIndex.A)) = refl
heal-back (Some (k, SlotIndex.B)) = refl

pub numbers_back : NumbersBack
numbers_back = record { standing = standing-back; choice = winner-back; slot = slot-back; heal = heal-back }

pub reads_back : (v : PairVerdict) → verdict_from (verdict_bytes v) ≡ v
reads_back v = rw (standing-back v.standing, winner-back v.winner, slot-back v.a, slot-back v.b)

pub same_length : (m n : ℕ) → eqb m n ≡ true → m ≡ n
same_length m n is = eqb-true m n is

pub cells_fit : (s : List ℕ) (n : ℕ) → eqb (length s) (n * verdict_width) ≡ true → length (verdict_cells s) ≡ n
cells_fit s n is = counted s n (eqb-true (length s) (n * verdict_width) is)
  where
    counted : (s : List ℕ) (n : ℕ) → length s ≡ n * verdict_width → length (verdict_cells s) ≡ n
    counted [] n is = omega arith
    counted (x ∷ y ∷ z ∷ w ∷ s) zero is = absurd (omega arith)
    counted (x ∷ y ∷ z ∷ w ∷ s) (suc n) is = let rest = counted s n (omega arith) in omega arith
    counted _ n is = absurd (omega arith)
