-- The numbers that C is given of the winner's payload: where a part lies that is the payload of its slot.
use Rattle.std.proofs.Common.{◌≡◌, refl, sym, ap, subst, ◌∙◌, ℕ, ◌+◌, ◌≤◌, List, length, drop, arith, le-ltb, length-drop, length-take-le, Bor, Some}
use Rattle.codec.specs.Place.{Part}
use Rattle.slot.specs.Payload.{payload_start, payload_length}
use Rattle.slot.specs.Status.{slot_number}
use Rattle.slot.specs.declared.slot.SlotIndex.{SlotIndex}
use Rattle.slot.specs.declared.slot.SlotInfo.{SlotInfo}
use Rattle.pair.specs.Winner.{PayloadPart, WinnerPart, of_slot}
use Rattle.store_io.specs.Winners.{winner_start, winner_length, PlacedAt}
use Rattle.store_io.specs.Winners.PlacedAt.{in_a, in_b}

-- A payload that fits lies where the slot's facts say.
start_of : (i : SlotInfo) (n : ℕ) → i.payload_start + i.payload_len ≤ n → payload_start i n ≡ i.payload_start
start_of i n fits = rw (le-ltb n (i.payload_start + i.payload_len) fits) refl

length_of : (i : SlotInfo) (n : ℕ) → i.payload_start + i.payload_len ≤ n → payload_length i n ≡ i.payload_len
length_of i n fits = rw (le-ltb n (i.payload_start + i.payload_len) fits) refl

part_length : (i : SlotInfo) (s part : Bor (List ℕ)) → i.payload_start + i.payload_len ≤ length s.now → PayloadPart i s part → length part.now ≡ i.payload_len
part_length i s part fits is =
    let bytes = rw (start_of i (length s.now) fits, length_of i (length s.now) fits) at is.bytes in
    ap length bytes ∙ length-take-le i.payload_len (drop i.payload_start s.now) (simp length-drop (omega arith))

-- Slot number, start and length of the winner's payload, of which a part was handed out.
pub record Placed (a b : Bor (List ℕ)) (index : SlotIndex) (i : SlotInfo) (len : ℕ) : Type 0 where
  pub start : winner_start (length a.now) (length b.now) (Some (index, i)) ≡ i.payload_start
  pub length_is : winner_length (length a.now) (length b.now) (Some (index, i)) ≡ len
  pub at : (part : Bor (List ℕ)) → WinnerPart (Some (index, i)) a b part → PlacedAt (slot_number index) i.payload_start len a b part

pub placed : (a b part : Bor (List ℕ)) (index : SlotIndex) (i : SlotInfo) → i.payload_start + i.payload_len ≤ length (of_slot index a.now b.now)
    → WinnerPart (Some (index, i)) a b part → Placed a b index i (length part.now)
placed a b part SlotIndex.A i fits is =
    let len : length part.now ≡ i.payload_len = part_length i a part fits is in
    record {
      start = start_of i (length a.now) fits;
      length_is = length_of i (length a.now) fits ∙ sym len;
      at = λ other lies.
          in_a refl (subst (λ (k : ℕ). Part a k (length part.now) other) (start_of i (length a.now) fits) (subst (λ (n : ℕ). Part a (payload_start i (length a.now)) n other) (length_of i (length a.now) fits ∙ sym len) lies))
          (part_length i a other fits lies ∙ sym len);
    }
placed a b part SlotIndex.B i fits is =
    let len : length part.now ≡ i.payload_len = part_length i b part fits is in
    record {
      start = start_of i (length b.now) fits;
      length_is = length_of i (length b.now) fits ∙ sym len;
      at = λ other lies.
          in_b refl (subst (λ (k : ℕ). Part b k (length part.now) other) (start_of i (length b.now) fits) (subst (λ (n : ℕ). Part b (payload_start i (length b.now)) n other) (length_of i (length b.now) fits ∙ sym len) lies))
          (part_length i b other fits lies ∙ sym len);
    }
