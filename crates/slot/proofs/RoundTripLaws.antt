-- What `encode` wrote is Valid with its fields and its payload, whatever stands after it: an `encode` that refuses nothing has passed every
-- test that the reader asks for.
use Rattle.std.proofs.Common.{◌≡◌, refl, ap, ◌∙◌, Bool, true, false, not, ◌&&◌, ◌||◌, List, ◌++◌, ℕ, ◌+◌, ◌-◌, ◌^◌, ◌==◌, ◌≤◌, ◌<◌, arith, eq-eqb, le-leb, le-ltb, ltb-false, eqb-true, leb-true, length, take, replicate, length-append, take_at, drop_at, Ok}
use Rattle.std.specs.Prelude.{nat_eq, nat_le, nat_lt}
use Rattle.std.proofs.Math.ListN.{length-replicate}
use Rattle.std.proofs.Math.Bool.{and-false}
use borrow.Author.Tests.{not-false}
use lib.Pointwise.{pointwise, bytes_decides}
use Rattle.codec.specs.Crc32c.{crc32c}
use Rattle.codec.proofs.ChecksumLaws.{crc-lt}
use Rattle.slot.specs.Status.{index_number}
use Rattle.slot.specs.Payload.{payload as payload_of}
use Rattle.slot.specs.Header.{header}
use Rattle.slot.specs.Read.{is_slot_length, is_blank, passes_checksum, number_ok, is_malformed, check, passes_payload, validate}
use Rattle.slot.specs.Write.{header_bytes, header_crc, written_header, slot_bytes, format_ok, encode_check, encode}
use Rattle.slot.specs.Laws.{Fits, stored_header, expect_of, info_of, IsReadBack, RoundTrip}
use Rattle.slot.specs.declared.header.Header.{Header}
use Rattle.slot.specs.declared.slot.SlotIndex.{SlotIndex}
use Rattle.slot.specs.declared.slot.SlotFields.{SlotFields}
use Rattle.slot.specs.declared.slot.SlotStatus.{SlotStatus}
use Rattle.slot.specs.declared.slot.EncodeError.{EncodeError}
use Rattle.slot.proofs.Tests.{both, passed}
use Rattle.slot.proofs.Room.{power_room}
use Rattle.slot.proofs.HeaderLaws.{header_there}
use Rattle.slot.proofs.WrittenLaws.{length_header, sum_written, header_written}

-- What is known where nothing is refused.
pub record Accepted (f : SlotFields) (payload : List ℕ) (room : ℕ) : Type 0 where
  pub log2-low : 9 ≤ f.log2_slot_size
  pub log2-high : f.log2_slot_size ≤ 16
  pub size : room ≡ 2 ^ f.log2_slot_size
  pub payload-fits : length payload ≤ room - 128
  pub generation : (f.generation == 0) ≡ false
  pub format : format_ok f ≡ true

pub accepted : (f : SlotFields) (payload : List ℕ) (room : ℕ) → encode_check f payload room ≡ Ok tt → Accepted f payload room
unfolding encode_check
accepted f payload room is =
    let log2 = passed (not (nat_le 9 f.log2_slot_size && nat_le f.log2_slot_size 16)) EncodeError.SlotSize _ is in
    let size = passed (not (room == 2 ^ f.log2_slot_size)) EncodeError.BufferLength _ log2.1 in
    let fits = passed (nat_lt (room - 128) (length payload)) EncodeError.PayloadTooLarge _ size.1 in
    let generation = passed (f.generation == 0) EncodeError.ZeroGeneration _ fits.1 in
    let format = passed (not (format_ok f)) EncodeError.Format _ generation.1 in
    let range = both (nat_le 9 f.log2_slot_size) (nat_le f.log2_slot_size 16) (not-false _ log2.0) in
    record {
      log2-low = leb-true _ _ range.0;
      log2-high = leb-true _ _ range.1;
      size = eqb-true _ _ (not-false _ size.0);
      payload-fits = ltb-false _ _ fits.0;
      generation = generation.0;
      format = not-false _ format.0;
    }

-- ---- the checks of a written header

known_format : (f : SlotFields) → format_ok f ≡ true → ((f.format_major == 1) || (f.format_major == 2)) ≡ true
known_format f is = go (f.format_major == 1) (f.format_major == 2) (f.meta_seq == 0) is
  where
    go : (one two none : Bool) → (two || (one && none)) ≡ true → (one || two) ≡ true
    go true two none is = refl
    go false true none is = refl
    go false false none is = absurd cc

index_small : (i : SlotIndex) → nat_lt 1 (index_number i) ≡ false
index_small SlotIndex.A = refl
index_small SlotIndex.B = refl

-- What `encode` and the reader ask of the fields.
pub record Proper (f : SlotFields) (numbered : Bool) : Type 0 where
  pub fits : Fits f
  pub generation : (f.generation == 0) ≡ false
  pub format : format_ok f ≡ true
  pub number : number_ok f.format_major numbered f.meta_seq ≡ true

module _ {f : SlotFields} {numbered : Bool} (proper : Proper f numbered) (payload rest : List ℕ) (payload_fits : length payload < 2 ^ 32) where
  abbrev slot : List ℕ
  slot = written_header f payload ++ rest

  abbrev stored : Header
  stored = stored_header (header_crc f payload) f (length payload) (crc32c payload)

  pub header-is : header slot ≡ stored
  unfolding written_header header_crc
  header-is = header_written (header_crc f payload) f (length payload) (crc32c payload) rest proper.fits.volume proper.fits (crc-lt _) payload_fits (crc-lt _)

  pub not_blank : is_blank slot ≡ false
  unfolding written_header header_bytes
  not_blank = refl

  -- A header that is written passes all checks in a slot that has room for its payload.
  module _ (room : 128 + length payload ≤ length slot) where
    long : 128 ≤ length slot
    long = omega arith

    passes : passes_checksum slot stored ≡ true
    unfolding passes_checksum written_header header_crc
    passes =
        simp (le-leb _ _ long)
        (eq-eqb _ _ (sum_written (header_crc f payload) f (length payload) (crc32c payload) rest proper.fits.volume))

    well_formed : is_malformed stored numbered ≡ false
    unfolding is_malformed
    well_formed = simp (proper.generation, index_small f.slot_index, proper.number, and-false)

    pub check_written : check slot stored (expect_of f numbered) ≡ Ok tt
    unfolding check
    check_written =
        let behind : length payload ≤ length slot - 128 = omega arith in
        let volume : pointwise nat_eq f.volume_uuid f.volume_uuid ≡ true = (bytes_decides f.volume_uuid f.volume_uuid).1 refl in
        simp (
          passes,
          eq-eqb f.format_major f.format_major refl,
          known_format f proper.format,
          well_formed,
          volume,
          eq-eqb f.object_id f.object_id refl,
          eq-eqb f.slot_offset f.slot_offset refl,
          eq-eqb (index_number f.slot_index) (index_number f.slot_index) refl,
          eq-eqb f.log2_slot_size f.log2_slot_size refl,
          le-ltb _ _ behind,
        )

-- ---- the slot with its payload, whatever stands after it

module _ {f : SlotFields} {numbered : Bool} (proper : Proper f numbered) (payload behind : List ℕ) (payload_fits : length payload < 2 ^ 32) where
  abbrev full : List ℕ
  full = written_header f payload ++ (payload ++ behind)

  header-length : length (written_header f payload) ≡ 128
  unfolding written_header
  header-length = length_header (header_crc f payload) f (length payload) (crc32c payload) proper.fits.volume

  room_full : length full ≡ 128 + length payload + length behind
  room_full = simp (length-append, header-length) (omega arith)

  pub payload_written : payload_of (info_of f payload) full ≡ payload
  unfolding payload_of
  payload_written =
      let fits : 128 + length payload ≤ length full = omega (arith, room_full) in
      simp (le-ltb _ _ fits)
      (ap (take (length payload)) (drop_at (written_header f payload) (payload ++ behind) 128 header-length) ∙ take_at payload behind (length payload) refl)

  pub valid_written : is_slot_length (length full) f.log2_slot_size ≡ true → validate full (expect_of f numbered) ≡ SlotStatus.Valid (info_of f payload)
  unfolding validate passes_payload
  valid_written is_length =
      let fits : 128 + length payload ≤ length full = omega (arith, room_full) in
      let long : 128 ≤ length full = omega (arith, room_full) in
      simp (
        is_length,
        not_blank proper payload (payload ++ behind) payload_fits,
        header_there full long,
        header-is proper payload (payload ++ behind) payload_fits,
        check_written proper payload (payload ++ behind) payload_fits fits,
        payload_written,
        eq-eqb (crc32c payload) (crc32c payload) refl,
      )

-- ---- the slot that `encode` writes

module _ (f : SlotFields) (payload : List ℕ) (room : ℕ) (fits : Fits f) (none : encode_check f payload room ≡ Ok tt) (numbered : Bool)
    (number : number_ok f.format_major numbered f.meta_seq ≡ true) where
  known : Accepted f payload room
  known = accepted f payload room none

  pub proper_is : Proper f numbered
  proper_is = record { fits = fits; generation = known.generation; format = known.format; number = number }

  pub payload_small : length payload < 2 ^ 32
  payload_small = let small = power_room room f.log2_slot_size known.size known.log2-low known.log2-high in omega (arith, small.1, known.payload-fits)

  read_back : (behind : List ℕ) → 128 + length payload + length behind ≡ room → IsReadBack (written_header f payload ++ (payload ++ behind)) f payload numbered
  unfolding is_slot_length
  read_back behind size =
      let all = room_full proper_is payload behind payload_small ∙ size ∙ known.size in
      record {
        valid =
            valid_written proper_is payload behind payload_small
            (simp (le-leb _ _ known.log2-low, le-leb _ _ known.log2-high) (eq-eqb _ _ all));
        payload_same = payload_written proper_is payload behind payload_small;
      }

pub round_trip : RoundTrip
unfolding encode slot_bytes
round_trip =
    record {
      written =
          λ f payload buffer numbered fits none number.
          let room = length buffer in
          let known = accepted f payload room none in
          let large = power_room room f.log2_slot_size known.size known.log2-low known.log2-high in
          let padding : List ℕ = replicate (2 ^ f.log2_slot_size - 128 - length payload) 0 in
          let size : 128 + length payload + length padding ≡ room =
          omega (arith, large.0, known.size, known.payload-fits, length-replicate {A = ℕ} (2 ^ f.log2_slot_size - 128 - length payload) 0) in
          rw none (read_back f payload room fits none numbered number padding size);
      whatever_behind =
          λ f payload behind numbered fits none number.
          read_back f payload (128 + length payload + length behind) fits none numbered number behind refl;
    }
