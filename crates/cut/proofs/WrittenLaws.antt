-- What is written to a typed slot of its size, whatever its generation, previous checksum and number: `encode` refuses nothing, the fields fit
-- and ask for what the slot is read with, and what is written has their header and the payload.
use Rattle.std.proofs.Common.{◌≡◌, refl, sym, ap, ap₂, subst, ◌∙◌, Bool, true, ◌==◌, List, ◌++◌, ℕ, ◌+◌, ◌-◌, ◌^◌, ◌≤◌, ◌<◌, arith, eq-eqb, ne_eqb, le-leb, le-ltb, length, take, drop, replicate, length-append, pow_mono, take_at, drop_at, take-append-drop, Result, Ok}
use Rattle.std.proofs.Math.ListN.{length-replicate}
use Rattle.codec.specs.Bytes.{AllBytes}
use Rattle.codec.specs.Crc32c.{crc32c}
use Rattle.slot.specs.Payload.{payload as payload_of}
use Rattle.slot.specs.Header.{magic, header}
use Rattle.slot.specs.Read.{is_slot_length, check, header_info, passes_payload}
use Rattle.slot.specs.Write.{header_bytes, header_crc, written_header, slot_bytes, encode_check, encoded as encode_by, encode}
use Rattle.slot.specs.Laws.{Fits, expect_of, stored_header, info_of}
use Rattle.slot.specs.declared.header.Header.{Header}
use Rattle.slot.specs.declared.slot.SlotIndex.{SlotIndex}
use Rattle.slot.specs.declared.slot.SlotInfo.{SlotInfo}
use Rattle.slot.specs.declared.slot.SlotFields.{SlotFields}
use Rattle.slot.specs.declared.slot.Expect.{Expect}
use Rattle.slot.specs.declared.slot.EncodeError.{EncodeError}
use Rattle.slot.proofs.Room.{slot_length}
use Rattle.slot.proofs.WrittenLaws.{length_header}
use Rattle.slot.proofs.RoundTripLaws.{Proper, header-is, check_written}
use Rattle.cut.specs.Store.{slot_at, SoundSlot}
use Rattle.cut.specs.Cut.{Write, size, expect, old, new, Written, payload_in}
use Rattle.cut.proofs.ByteLaws.{slot_all_bytes}

expect_same : {v v' : List ℕ} {o o' s s' l l' f f' : ℕ} {x x' : SlotIndex} {n n' : Bool}
    → v ≡ v' → o ≡ o' → s ≡ s' → x ≡ x' → l ≡ l' → f ≡ f' → n ≡ n'
    → ◌≡◌ {A = Expect}
    (record { volume_uuid = v; object_id = o; slot_offset = s; slot_index = x; log2_slot_size = l; format_major = f; numbered = n })
    (record { volume_uuid = v'; object_id = o'; slot_offset = s'; slot_index = x'; log2_slot_size = l'; format_major = f'; numbered = n' })
expect_same volume object offset index log2 format numbered = cc

-- What is written, and the slot that it is written to.
pub record WrittenInto (generation prev number : ℕ) (w : Write) : Type 0 where
  pub written : Written generation prev number w
  pub slot : SoundSlot (slot_at w.index w.pair)
  pub length_ok : is_slot_length (length (old w)) (expect w).log2_slot_size ≡ true
  pub some_generation : 1 ≤ generation
  pub prev_fits : prev < 2 ^ 32
  pub some_number : 1 ≤ number

module _ {generation prev number : ℕ} (w : Write) (made : WrittenInto generation prev number w) where
  abbrev f : SlotFields
  f = w.fields

  abbrev is : Written generation prev number w
  is = made.written

  -- ---- the size

  log2_known : (9 ≤ (expect w).log2_slot_size) × ((expect w).log2_slot_size ≤ 16) × (length (old w) ≡ 2 ^ (expect w).log2_slot_size)
  log2_known = slot_length (length (old w)) (expect w).log2_slot_size made.length_ok

  log2_low : 9 ≤ w.fields.log2_slot_size
  log2_low = omega (arith, is.log2, log2_known.0)

  log2_high : w.fields.log2_slot_size ≤ 16
  log2_high = omega (arith, is.log2, log2_known.1)

  pub old_size : length (old w) ≡ size w
  old_size = log2_known.2 ∙ ap (λ (n : ℕ). 2 ^ n) (sym is.log2)

  small : size w ≤ 2 ^ 16
  small = pow_mono log2_high

  pub payload_small : length w.payload < 2 ^ 32
  payload_small = omega (arith, small, is.fits)

  -- ---- the fields

  fields_fit : Fits w.fields
  fields_fit =
      record {
        volume = ap length is.volume ∙ made.slot.typed.volume;
        object = omega (arith, is.object, made.slot.typed.object);
        generation = is.generation_fits;
        owner = is.owner;
        offset = omega (arith, is.offset, made.slot.typed.offset);
        log2 = omega (arith, log2_high);
        prev = omega (arith, is.prev_is, made.prev_fits);
        format = omega (arith, is.format);
        number = is.number_fits;
        compat = is.compat;
      }

  some_generation : f.generation ≡ 0 → ⊥
  some_generation none = omega (arith, is.generation_is, made.some_generation)

  pub fields_proper : Proper w.fields true
  fields_proper =
      let some_number : 1 ≤ f.meta_seq = omega (arith, is.number_is, made.some_number) in
      record {
        fits = fields_fit;
        generation = ne_eqb _ _ some_generation;
        format = simp (eq-eqb _ _ is.format);
        number = simp (eq-eqb _ _ is.format, le-leb _ _ some_number);
      }

  pub expect_is : expect_of w.fields true ≡ expect w
  expect_is =
      expect_same is.volume is.object is.offset is.index is.log2 (is.format ∙ sym made.slot.format) (sym made.slot.numbered)

  -- ---- what is written

  none_refused : encode_check w.fields w.payload (length w.buffer) ≡ Ok tt
  unfolding encode_check
  none_refused =
      let within : length w.payload ≤ length w.buffer - 128 = omega (arith, is.fits, is.room) in
      simp (
        le-leb _ _ log2_low,
        le-leb _ _ log2_high,
        eq-eqb _ _ is.room,
        le-ltb _ _ within,
        ne_eqb _ _ some_generation,
        eq-eqb _ _ is.format,
      )

  pub not_refused : (encode w.fields w.payload w.buffer).1 ≡ Ok (header_crc w.fields w.payload)
  unfolding encode
  not_refused = rw none_refused

  abbrev padding : List ℕ
  padding = replicate (2 ^ f.log2_slot_size - 128 - length w.payload) 0

  new_is : new w ≡ slot_bytes f w.payload
  unfolding encode
  new_is = ap (λ (answer : Result (Unit {0}) EncodeError). (encode_by f w.payload w.buffer answer).0) none_refused

  new_parts : new w ≡ written_header f w.payload ++ (w.payload ++ padding)
  new_parts = new_is ∙ (unfold slot_bytes in refl)

  header_size : length (written_header f w.payload) ≡ 128
  unfolding written_header
  header_size = length_header _ f (length w.payload) _ fields_fit.volume

  pub new_size : length (new w) ≡ size w
  new_size =
      ap length new_parts
      ∙ simp (length-append, header_size, length-replicate)
      (omega (arith, is.fits))

  pub new_bytes : AllBytes (new w)
  new_bytes = subst AllBytes (sym new_is) (slot_all_bytes f w.payload (subst AllBytes (sym is.volume) made.slot.typed.volume_bytes) is.bytes)

  pub new_header : take 128 (new w) ≡ written_header w.fields w.payload
  new_header = ap (take 128) new_parts ∙ take_at (written_header f w.payload) (w.payload ++ padding) 128 header_size

  pub new_payload : take (length w.payload) (drop 128 (new w)) ≡ w.payload
  new_payload =
      ap (λ (s : List ℕ). take (length w.payload) (drop 128 s)) new_parts
      ∙ ap (take (length w.payload)) (drop_at (written_header f w.payload) (w.payload ++ padding) 128 header_size)
      ∙ take_at w.payload padding (length w.payload) refl

  pub new_magic : take 8 (new w) ≡ magic
  unfolding written_header header_bytes
  new_magic = ap (take 8) new_parts

  pub sizes_same : length (old w) ≡ length (new w)
  sizes_same = old_size ∙ sym new_size

-- ---- a slot under a header that was written

module _ {f : SlotFields} (m : List ℕ) (proper : Proper f true) (small : length m < 2 ^ 32) (c : List ℕ) (within : 128 + length m ≤ length c)
    (head : take 128 c ≡ written_header f m) where
  parts : written_header f m ++ drop 128 c ≡ c
  parts = ap (λ (l : List ℕ). l ++ drop 128 c) (sym head) ∙ take-append-drop 128 c

  pub stored_under : header c ≡ stored_header (header_crc f m) f (length m) (crc32c m)
  stored_under = ap header (sym parts) ∙ header-is proper m (drop 128 c) small

  pub check_under : {e : Expect} → expect_of f true ≡ e → check c (header c) e ≡ Ok tt
  check_under {e} asked =
      ap (λ (h : Header). check c h e) stored_under
      ∙ ap₂ (λ (t : List ℕ) (a : Expect). check t (stored_header (header_crc f m) f (length m) (crc32c m)) a) (sym parts) (sym asked)
      ∙ check_written proper m (drop 128 c) small (rw parts within)

  pub info_under : header_info (header c) ≡ info_of f m
  info_under = ap header_info stored_under

  pub payload_under : payload_of (header_info (header c)) c ≡ payload_in c m
  unfolding payload_of
  payload_under = ap (λ (j : SlotInfo). payload_of j c) info_under ∙ simp (le-ltb _ _ within)

  pub sum_under : (header c).payload_crc32c ≡ crc32c m
  sum_under = ap (λ (h : Header). h.payload_crc32c) stored_under

  pub passes_under : passes_payload c (header c) ≡ (crc32c (payload_in c m) == crc32c m)
  unfolding passes_payload
  passes_under = ap₂ (λ (s : List ℕ) (sum : ℕ). crc32c s == sum) payload_under sum_under
