-- The pair as a write to the slot beside its winner left it, cut or finished.
use Rattle.std.proofs.Common.{◌≡◌, refl, sym, ap, subst, ◌∙◌, ◌⊎◌, inl, inr, true, false, ◌&&◌, ◌==◌, nat_le, List, [], ◌∷◌, ℕ, zero, suc, ◌+◌, ◌≤◌, ◌<◌, arith, eqb-true, length, take, get_or, get_or-take, lit<}
use Rattle.std.specs.List.{list_all}
use Rattle.codec.specs.Bytes.{AllBytes, le16, le32}
use Rattle.codec.specs.Crc32c.{crc32c}
use Rattle.slot.specs.Status.{other}
use Rattle.slot.specs.Payload.{payload as payload_of}
use Rattle.slot.specs.Read.{is_blank, header_sum}
use Rattle.slot.specs.Laws.{info_of}
use Rattle.slot.specs.declared.slot.SlotIndex.{SlotIndex}
use Rattle.slot.specs.declared.slot.SlotInfo.{SlotInfo}
use Rattle.slot.proofs.Tests.{both}
use Rattle.cut.specs.Store.{Pair, slot_at}
use Rattle.cut.specs.Cut.{Write, size, old, new, left, with_slot, Possible, whole, header_passes, payload_in, payload_by}
use Rattle.cut.proofs.StatusLaws.{passed_is}
use Rattle.cut.proofs.CutLaws.{torn_byte, torn_bytes, anywhere, length_torn, Header, torn_header}
use Rattle.cut.proofs.StateLaws.{Short, beside, asked, Leads, Resting, Flying, under_check}
use Rattle.cut.proofs.NextLaws.{length_bytes, length_short, Next, wins, next_resting, next_flying}
use Rattle.cut.proofs.WrittenLaws.{WrittenInto, new_size, new_bytes, new_magic, new_header, new_payload, sizes_same}
use Rattle.cut.proofs.WriteLaws.{BesideWinner, old_is, writes, fitting, new_beside, new_short}

-- ---- the length in the header stays short

zero_byte : (s : List ℕ) → list_all (λ b. b == 0) s ≡ true → (i : ℕ) → get_or s i 0 ≡ 0
zero_byte [] zeros i = refl
zero_byte (x ∷ s) zeros zero = eqb-true x 0 (both (x == 0) _ zeros).0
zero_byte (x ∷ s) zeros (suc i) = zero_byte s (both (x == 0) _ zeros).1 i

zero_length : (s : List ℕ) → is_blank s ≡ true → (get_or s 12 0 ≡ 0) × (get_or s 13 0 ≡ 0)
zero_length s zeros = (
  sym (get_or-take 128 s 12 0 (lit< tt)) ∙ zero_byte (take 128 s) zeros 12,
  sym (get_or-take 128 s 13 0 (lit< tt)) ∙ zero_byte (take 128 s) zeros 13,
)

blank_short : (s : List ℕ) → is_blank s ≡ true → Short s
blank_short s zeros = let zero = zero_length s zeros in record { low = omega (arith, zero.0); high = zero.1 }

-- A header of zeros passes no checksum.
pub blank_fails : (s : List ℕ) → is_blank s ≡ true → header_passes s ≡ false
unfolding header_passes
blank_fails s zeros =
    let bytes = zero_length s zeros in
    let none : le16 s 12 ≡ 0 = let is = length_bytes s in omega (arith, is, bytes.0, bytes.1) in
    ap (λ (n : ℕ). (nat_le 128 n && nat_le n (length s)) && (header_sum s n == le32 s 8)) none

module _ (p : Pair) (x : SlotIndex) (i : SlotInfo) (leads : Leads p x i) where
  pub resting_short : Resting p x i → Short (beside x p)
  resting_short (Resting.zeroed is_a first zeros) = blank_short (beside x p) zeros
  resting_short (Resting.past older) =
      length_short (beside x p) ((passed_is (beside x p) (asked x p) older.check_is).length_is (leads.slots (other x)).format)
  resting_short (Resting.lapsed stands fails short same_sum) = short

  pub flying_short : {m : List ℕ} {known : List (List ℕ)} {n : ℕ} → Flying p x i m known n → Short (beside x p)
  flying_short (Flying.unread stands fails short other_sum) = short
  flying_short (Flying.begun f fit head bad among) =
      length_short (beside x p)
      ((passed_is (beside x p) (asked x p) (under_check p x i leads fit (beside x p) refl head)).length_is (leads.slots (other x)).format)

-- ---- finished

module _ {n : ℕ} (w : Write) (made : BesideWinner n w) (below : made.correct.winner.meta_seq < n) where
  -- The write has won.
  pub finished_wins : Leads (with_slot w.index (new w) w.pair) w.index (info_of w.fields w.payload)
      × Resting (with_slot w.index (new w) w.pair) w.index (info_of w.fields w.payload)
      × (payload_of (info_of w.fields w.payload) (slot_at w.index (with_slot w.index (new w) w.pair)).bytes ≡ w.payload)
  finished_wins =
      wins w.pair w.index made.correct.winner made.leads (new w) (new_beside w made) (new_bytes w (writes w made)) n below (fitting w made) (new_header w (writes w made))
      (new_payload w (writes w made))

-- ---- cut

module _ {n : ℕ} (w : Write) (made : BesideWinner n w) (below : made.correct.winner.meta_seq < n) (possible : Possible w.tear (size w)) where
  abbrev p : Pair
  p = w.pair

  abbrev x : SlotIndex
  x = other w.index

  abbrev c : List ℕ
  c = left w

  abbrev wrote : WrittenInto (made.correct.winner.generation + 1) made.correct.winner.header_crc32c n w
  wrote = writes w made

  sizes : length (old w) ≡ length (new w)
  sizes = sizes_same w wrote

  possible_new : Possible w.tear (length (new w))
  possible_new = rw (new_size w wrote) possible

  pub left_size : length (left w) ≡ length (beside (other w.index) w.pair)
  left_size = length_torn (new w) (old w) sizes w.tear (anywhere _ w.tear possible_new) ∙ new_beside w made

  pub left_bytes : AllBytes (left w)
  left_bytes = torn_bytes (new w) (old w) sizes w.tear (new_bytes w (writes w made)) (made.leads.slots w.index).typed.bytes

  left_header : Header c (beside x p) (new w)
  left_header =
      subst (λ (s : List ℕ). Header c s (new w)) (sym (old_is w made)) (torn_header (new w) (old w) sizes w.tear possible_new (new_magic w (writes w made)))

  pub left_short : Short (beside (other w.index) w.pair) → Short (left w)
  left_short short = record { low = low (torn_byte (new w) (old w) sizes w.tear 12); high = high (torn_byte (new w) (old w) sizes w.tear 13) }
    where
      old_short : Short (old w)
      old_short = subst Short (old_is w made) short

      low : (get_or c 12 0 ≡ get_or (old w) 12 0) ⊎ (get_or c 12 0 ≡ get_or (new w) 12 0) → get_or c 12 0 ≤ 128
      low (inl is) = omega (arith, is, old_short.low)
      low (inr is) = omega (arith, is, (new_short w made).low)

      high : (get_or c 13 0 ≡ get_or (old w) 13 0) ⊎ (get_or c 13 0 ≡ get_or (new w) 13 0) → get_or c 13 0 ≡ 0
      high (inl is) = is ∙ old_short.high
      high (inr is) = is ∙ (new_short w made).high

  -- The slot's header was written with m, and `known` were begun before.
  module _ (known : List (List ℕ)) (m : List ℕ) (m_new : take 128 (left w) ≡ take 128 (new w) → m ≡ w.payload)
      (none : take 128 (left w) ≡ take 128 (new w) → (payload_in (left w) w.payload ≡ w.payload → ⊥)
      → crc32c (payload_in (left w) w.payload) ≡ le32 (left w) 28 → ⊥)
      (on_neither : (take 128 (left w) ≡ take 128 (new w) → ⊥) → (take 128 (left w) ≡ take 128 (beside (other w.index) w.pair) → ⊥)
      → header_passes (left w) ≡ true
      → Next (with_slot w.index (left w) w.pair) w.index made.correct.winner w.payload m known n (whole w)) where
    pub left_resting : Resting w.pair (other w.index) made.correct.winner
        → Next (with_slot w.index (left w) w.pair) w.index made.correct.winner w.payload m known n (whole w)
    left_resting resting =
        next_resting p w.index made.correct.winner made.leads c left_size left_bytes n below (fitting w made) (new w)
        (new_beside w made ∙ sym left_size)
        (new_header w (writes w made)) (new_payload w (writes w made))
        (left_short (resting_short p x _ made.leads resting)) known m m_new none resting on_neither left_header

    pub left_flying : {before : List ℕ} → Flying w.pair (other w.index) made.correct.winner before known n
        → ((take 128 (left w) ≡ take 128 (new w) → ⊥) → take 128 (left w) ≡ take 128 (beside (other w.index) w.pair) → m ≡ before)
        → ((take 128 (left w) ≡ take 128 (new w) → ⊥) → header_passes (left w) ≡ true
        → take 128 (left w) ≡ take 128 (beside (other w.index) w.pair) → (payload_by (left w) (left w) ≡ before → ⊥)
        → crc32c (payload_by (left w) (left w)) ≡ le32 (left w) 28 → ⊥)
        → Next (with_slot w.index (left w) w.pair) w.index made.correct.winner w.payload m known n (whole w)
    left_flying flying m_old none_old =
        next_flying p w.index made.correct.winner made.leads c left_size left_bytes n below (fitting w made) (new w)
        (new_beside w made ∙ sym left_size)
        (new_header w (writes w made)) (new_payload w (writes w made)) (left_short (flying_short p x _ made.leads flying)) known m m_new none flying m_old none_old
        on_neither left_header
