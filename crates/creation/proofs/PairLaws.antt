-- A pair after its first write: it is sound where the record stands whole, and where it does not, none of its slots is Valid but for an
-- accident.
use Rattle.std.proofs.Common.{◌≡◌, refl, sym, ap, ap₂, ◌∙◌, Bool, true, false, ◌==◌, nat_eq, cond, List, ℕ, ◌+◌, ◌≤◌, arith, eq-eqb, eqb-true, lit≤, lit<, length, take}
use Rattle.std.specs.List.{list_all}
use lib.Pointwise.{pointwise, bytes_decides}
use Rattle.codec.specs.Bytes.{AllBytes, le32}
use Rattle.codec.specs.Crc32c.{crc32c}
use Rattle.slot.specs.Status.{other}
use Rattle.slot.specs.Payload.{payload as payload_of}
use Rattle.slot.specs.Read.{is_slot_length, validate}
use Rattle.slot.specs.Laws.{info_of}
use Rattle.slot.specs.declared.slot.SlotInfo.{SlotInfo}
use Rattle.slot.specs.declared.slot.SlotStatus.{SlotStatus}
use Rattle.cut.specs.Store.{Slot, slot_at, status, accepts, last_record, Beside, SoundPair}
use Rattle.cut.specs.Cut.{Write, store, size, expect, old, new, left, with_slot, Anywhere, next_number, whole, stands_whole, payload_in, Accident}
use Rattle.cut.proofs.StatusLaws.{false_true, blank_is, valid_is, passed_is, passed_status}
use Rattle.cut.proofs.PairLaws.{last_is}
use Rattle.cut.proofs.CutLaws.{differ, front_parts, whole_by, torn_bytes, length_torn}
use Rattle.cut.proofs.WrittenLaws.{WrittenInto, new_size, new_bytes, new_header, new_payload, sizes_same, old_size, payload_small, fields_proper, expect_is, check_under, info_under, payload_under, sum_under, passes_under}
use Rattle.cut.proofs.NextLaws.{kept_slot, put_slot, put_decoder, put_slots}
use Rattle.cut.proofs.LeftLaws.{blank_fails}
use Rattle.creation.specs.Creation.{FirstWrite}

module _ (w : Write) (first : FirstWrite w) where
  abbrev r : List ℕ
  r = w.payload

  unwritten : validate (old w) (expect w) ≡ SlotStatus.Blank
  unwritten = first.new_pair.blank w.index

  pub writes : WrittenInto 1 0 (next_number (store w) w.pair) w
  writes =
      record {
        written = first.written;
        slot = first.new_pair.slots w.index;
        length_ok = (blank_is (old w) (expect w) unwritten).length_ok;
        some_generation = lit≤ tt;
        prev_fits = lit< tt;
        some_number = omega arith;
      }

  -- ---- other bytes in its slot

  module _ (s : List ℕ) (sizes : length s ≡ size w) where
    within : 128 + length w.payload ≤ length s
    within = omega (arith, sizes, first.written.fits)

    length_ok : is_slot_length (length s) (expect w).log2_slot_size ≡ true
    length_ok = ap (λ (n : ℕ). is_slot_length n (expect w).log2_slot_size) (sizes ∙ sym (old_size w writes)) ∙ writes.length_ok

    module _ (same_header : take 128 s ≡ take 128 (new w)) where
      passes : validate s (expect w) ≡ cond (crc32c (payload_in s r) == crc32c r) (SlotStatus.Valid (info_of w.fields r)) SlotStatus.BadPayloadCrc
      passes =
          let head = same_header ∙ new_header w writes in
          let proper = fields_proper w writes in
          let small = payload_small w writes in
          let check_is = check_under r proper small s within head (expect_is w writes) in
          passed_status s (expect w) length_ok (passed_is s (expect w) check_is).magic_is check_is
          ∙ ap₂ (λ (b : Bool) (i : SlotInfo). cond b (SlotStatus.Valid i) SlotStatus.BadPayloadCrc)
          (passes_under r proper small s within head)
          (info_under r proper small s within head)

      record_is : payload_in s r ≡ r → payload_of (info_of w.fields r) s ≡ r
      record_is same =
          let head = same_header ∙ new_header w writes in
          let proper = fields_proper w writes in
          let small = payload_small w writes in
          ap (λ (i : SlotInfo). payload_of i s) (sym (info_under r proper small s within head))
          ∙ payload_under r proper small s within head
          ∙ same

      stored : le32 s 28 ≡ crc32c r
      stored = sum_under r (fields_proper w writes) (payload_small w writes) s within (same_header ∙ new_header w writes)

    -- The record stands whole.
    parts : stands_whole s (new w) r ≡ true → (take 128 s ≡ take 128 (new w)) × (payload_in s r ≡ r)
    unfolding stands_whole
    parts stands =
        let both = front_parts s (new w) r (omega (arith, within)) (omega (arith, new_size w writes, first.written.fits))
        ((bytes_decides (take (128 + length r) s) (take (128 + length r) (new w))).0 stands) in
        (both.0, both.1 ∙ new_payload w writes)

    sound_with : AllBytes s → stands_whole s (new w) r ≡ true
        → SoundPair (with_slot w.index s w.pair) × (last_record (with_slot w.index s w.pair) ≡ r)
    sound_with bytes stands =
        let whole_parts = parts stands in
        let put = put_slot w.pair s w.index in
        let back : payload_of (info_of w.fields r) (slot_at w.index (with_slot w.index s w.pair)).bytes ≡ r =
        ap (λ (t : Slot). payload_of (info_of w.fields r) t.bytes) put ∙ record_is whole_parts.0 whole_parts.1 in
        let sound : SoundPair (with_slot w.index s w.pair) =
        record {
          slots = put_slots w.pair s w.index first.new_pair.slots bytes;
          newer = w.index;
          info = info_of w.fields r;
          valid =
              ap status put
              ∙ passes whole_parts.0
              ∙ ap (λ (b : Bool). cond b (SlotStatus.Valid (info_of w.fields r)) SlotStatus.BadPayloadCrc)
              (eq-eqb _ _ (ap crc32c whole_parts.1));
          accepted = ap₂ (λ d (t : List ℕ). accepts d t) (put_decoder w.pair s w.index) back ∙ first.written.accepted;
          beside =
              Beside.first first.slot_a first.written.generation_is
              (ap status (kept_slot w.pair s w.index) ∙ first.new_pair.blank (other w.index));
        } in
        (sound, last_is (with_slot w.index s w.pair) sound ∙ back)

    -- It does not.
    not_valid : (Accident s (old w) (new w) r → ⊥) → stands_whole s (new w) r ≡ false → (i : SlotInfo)
        → validate s (expect w) ≡ SlotStatus.Valid i
        → ⊥
    not_valid none torn i is = by_header (pointwise nat_eq (take 128 s) (take 128 (new w))) refl
      where
        not_old : take 128 s ≡ take 128 (old w) → ⊥
        not_old same =
            let zeros = ap (list_all (λ b. b == 0)) same ∙ (blank_is (old w) (expect w) unwritten).zeros in
            false_true {A = ⊥} (blank_fails s zeros) (passed_is s (expect w) (valid_is s (expect w) i is).check_is).sum_is

        by_sum : take 128 s ≡ take 128 (new w) → (ok : Bool) → (crc32c (payload_in s r) == crc32c r) ≡ ok
            → cond ok (SlotStatus.Valid (info_of w.fields r)) SlotStatus.BadPayloadCrc ≡ SlotStatus.Valid i → ⊥
        by_sum same false ok other = absurd cc
        by_sum same true ok valid =
            none
            (Accident.payload same
            (λ same_payload. false_true {A = ⊥} torn (whole_by s (new w) r same (same_payload ∙ sym (new_payload w writes))))
            (eqb-true _ _ ok ∙ sym (stored same)))

        by_header : (same : Bool) → pointwise nat_eq (take 128 s) (take 128 (new w)) ≡ same → ⊥
        by_header true test =
            let same = (bytes_decides (take 128 s) (take 128 (new w))).0 test in
            by_sum same (crc32c (payload_in s r) == crc32c r) refl (sym (passes same) ∙ is)
        by_header false test =
            none
            (Accident.header (passed_is s (expect w) (valid_is s (expect w) i is).check_is).sum_is not_old (differ (take 128 s) (take 128 (new w)) test))

  -- ---- finished, and cut

  pub left_bytes : AllBytes (left w)
  left_bytes = torn_bytes (new w) (old w) (sizes_same w writes) w.tear (new_bytes w writes) (first.new_pair.slots w.index).typed.bytes

  left_size : Anywhere w.tear (size w) → length (left w) ≡ size w
  left_size any =
      length_torn (new w) (old w) (sizes_same w writes) w.tear (rw (new_size w writes) any) ∙ new_size w writes

  pub finished_sound : SoundPair (with_slot w.index (new w) w.pair) × (last_record (with_slot w.index (new w) w.pair) ≡ w.payload)
  unfolding stands_whole
  finished_sound = sound_with (new w) (new_size w writes) (new_bytes w writes) ((bytes_decides (take (128 + length r) (new w)) (take (128 + length r) (new w))).1 refl)

  pub whole_sound : Anywhere w.tear (size w) → whole w ≡ true
      → SoundPair (with_slot w.index (left w) w.pair) × (last_record (with_slot w.index (left w) w.pair) ≡ w.payload)
  whole_sound any stands = sound_with (left w) (left_size any) left_bytes stands

  pub torn_not_valid : Anywhere w.tear (size w) → (Accident (left w) (old w) (new w) w.payload → ⊥) → whole w ≡ false → (i : SlotInfo)
      → status (slot_at w.index (with_slot w.index (left w) w.pair)) ≡ SlotStatus.Valid i
      → ⊥
  torn_not_valid any none torn i is = not_valid (left w) (left_size any) none torn i (ap status (sym (put_slot w.pair (left w) w.index)) ∙ is)
