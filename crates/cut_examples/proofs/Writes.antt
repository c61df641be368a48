-- What specs/Writes.antt says of the stores and the writes. The slots are what `encode` writes; the checksums are computed.
use Rattle.std.proofs.Common.{◌≡◌, refl, sym, ap, subst, ◌∙◌, inl, inr, Bool, true, false, cond, not, nat_eq, ◌==◌, List, [], ◌∷◌, ◌++◌, ℕ, ◌+◌, ◌-◌, ◌^◌, ◌≤◌, ◌<◌, max, arith, leb-true, eqb-true, eq-eqb, leb, eqb, lit≤, lit<, length, take, replicate, Some, Result, Ok}
use Rattle.std.proofs.Math.ListN.{length-replicate}
use borrow.Author.Tests.{not-true}
use lib.Pointwise.{pointwise, bytes_decides}
use Rattle.codec.specs.Bytes.{AllBytes, le, le16, le32}
use Rattle.codec.specs.Crc32c.{crc32c, final_remainder, remainder, digest, reversed}
use Rattle.codec.proofs.ByteLaws.{append-bytes, zero-bytes, number_bytes}
use Rattle.slot.specs.Status.{other}
use Rattle.slot.specs.Payload.{payload as payload_of}
use Rattle.slot.specs.Read.{header_sum, is_slot_length, number_ok, validate}
use Rattle.slot.specs.Write.{header_bytes, header_crc, written_header, slot_bytes, encode_check, encoded, encode}
use Rattle.slot.specs.Laws.{Fits, info_of, IsReadBack}
use Rattle.slot.specs.declared.slot.SlotIndex.{SlotIndex}
use Rattle.slot.specs.declared.slot.SlotFields.{SlotFields}
use Rattle.slot.specs.declared.slot.SlotInfo.{SlotInfo}
use Rattle.slot.specs.declared.slot.SlotStatus.{SlotStatus}
use Rattle.slot.specs.declared.slot.Expect.{Expect}
use Rattle.slot.specs.declared.slot.EncodeError.{EncodeError}
use Rattle.slot.proofs.RoundTripLaws.{round_trip}
use Rattle.pair.specs.Pair.{winner_info}
use Rattle.judge.specs.Numbers.{numbers, highest}
use Rattle.judge.specs.Judge.{most_pairs}
use Rattle.meta.specs.Block.{block_size, entries_per_page}
use Rattle.meta.specs.Base.{base_at, check_base}
use Rattle.meta.specs.Volume.{tail_at, check_tail, check_volume, decode_volume, volume_bytes as volume_record_bytes}
use Rattle.meta.specs.Page.{header_at, decode_page, entries, header_row as page_header_row, header_bytes as page_header_bytes}
use Rattle.cut.specs.Store.{Every, Decoder, Volume, Page, accepts, clean_mark, Pair, slot_at, status, report, shown, last_record, store_mark, Typed, SoundSlot, Beside, SoundPair, IsRow, Sound}
use Rattle.cut.specs.Cut.{Tear, Ascending, Sectors, Write, store, size, old, new, cut, torn, CutPoint, Possible, Written, CorrectWith, CorrectWrite, stands_whole, whole, payload_in, Accident, payload_by, SectorAccident, AccidentBy, handed, VolumeIfMarked}
use Rattle.cut_examples.specs.Stores.{volume_by, volume_record, reopened_record, page_record, rest, fields, read_with, zeros_for, written_slot, blank_slot, volume_fields, volume_pair, marked_fields, closed_volume, older_fields, newer_fields, first_page, second_fields, second_page, new_fields, later_page, first_store, closed_store, later_store}
use Rattle.cut_examples.specs.Writes.{IsMet, MetIsEnough, write_to, page_write, volume_write, opening_fields, opening_write, next_fields, second_write, later_fields, later_write, PageMet, VolumeMet, OpeningMet, SecondMet, LaterMet, StandsWhole, MarkHanded, OldMarkHanded}
use Rattle.cut.proofs.ByteLaws.{bytes_tested, row_bytes, slot_all_bytes}
use Rattle.cut.proofs.StatusLaws.{false_true}
use Rattle.cut.proofs.PairLaws.{valid_number, blank_number, last_is}
use Rattle.cut.proofs.StateLaws.{sound_won}
use Rattle.cut.proofs.CutLaws.{differ, failed_sum, failed_payload, older_at_most}
use Rattle.cut.proofs.StatementLaws.{unmarked_asked, torn_handed, whole_handed}
use Rattle.cut.proofs.Theorem.{cut_theorem}

-- ---- slots as they are written

-- What is known of a slot that `encode` wrote, in a pair with a decoder.
pub record Known (f : SlotFields) (payload : List ℕ) (decoder : Decoder) : Type 0 where
  pub slot : SoundSlot (written_slot f payload)
  pub valid : status (written_slot f payload) ≡ SlotStatus.Valid (info_of f payload)
  pub record_is : payload_of (info_of f payload) (written_slot f payload).bytes ≡ payload
  pub accepted : accepts decoder (payload_of (info_of f payload) (written_slot f payload).bytes) ≡ true

module _ (log2 object : ℕ) (index : SlotIndex) (generation prev number : ℕ) where
  abbrev f : SlotFields
  f = fields log2 object index generation prev number

  pub fields_fit : log2 < 2 ^ 8 → object < 2 ^ 64 → generation < 2 ^ 64 → f.slot_offset < 2 ^ 64 → prev < 2 ^ 32 → number < 2 ^ 64 → Fits f
  fields_fit log2_fits object_fits generation_fits offset_fits prev_fits number_fits =
      record {
        volume = refl;
        object = object_fits;
        generation = generation_fits;
        owner = lit< tt;
        offset = offset_fits;
        log2 = log2_fits;
        prev = prev_fits;
        format = lit< tt;
        number = number_fits;
        compat = lit< tt;
      }

  module _ (fits : Fits f) where
    typed_with : (bytes : List ℕ) → AllBytes bytes → Typed (record { bytes = bytes; expect = read_with f; rest = rest })
    typed_with bytes all =
        record {
          bytes = all;
          volume = refl;
          volume_bytes = bytes_tested (replicate 16 7) refl;
          object = fits.object;
          offset = fits.offset;
          rest = record { generation = lit< tt; number = lit< tt; own = lit< tt; prev = lit< tt; owner = lit< tt };
        }

    module _ (payload : List ℕ) (all : AllBytes payload) (none : encode_check f payload (2 ^ log2) ≡ Ok tt) (numbered : number_ok 2 true number ≡ true) where
      room_is : length (zeros_for f) ≡ 2 ^ log2
      room_is = length-replicate (2 ^ log2) 0

      none_for : encode_check f payload (length (zeros_for f)) ≡ Ok tt
      none_for = ap (encode_check f payload) room_is ∙ none

      back : IsReadBack (encode f payload (zeros_for f)).0 f payload true
      back = round_trip.written f payload (zeros_for f) true fits none_for numbered

      written_bytes : AllBytes (encode f payload (zeros_for f)).0
      unfolding encode
      written_bytes =
          subst AllBytes (sym (ap (λ (answer : Result (Unit {0}) EncodeError). (encoded f payload (zeros_for f) answer).0) none_for))
          (slot_all_bytes f payload (bytes_tested (replicate 16 7) refl) all)

      pub written_known : (decoder : Decoder) → accepts decoder payload ≡ true → Known f payload decoder
      written_known decoder takes =
          record {
            slot = record { typed = typed_with (encode f payload (zeros_for f)).0 written_bytes; format = refl; numbered = refl };
            valid = back.valid;
            record_is = back.payload_same;
            accepted = ap (accepts decoder) back.payload_same ∙ takes;
          }

blank_fits : (object : ℕ) (index : SlotIndex) → object ≤ 2 → Fits (fields 9 object index 0 0 0)
blank_fits object SlotIndex.A small = fields_fit 9 object SlotIndex.A 0 0 0 (lit< tt) (omega arith) (lit< tt) (omega arith) (lit< tt) (lit< tt)
blank_fits object SlotIndex.B small = fields_fit 9 object SlotIndex.B 0 0 0 (lit< tt) (omega arith) (lit< tt) (omega arith) (lit< tt) (lit< tt)

pub blank_sound : (object : ℕ) (index : SlotIndex) → object ≤ 2 → SoundSlot (blank_slot object index)
blank_sound object index small =
    record {
      typed =
          typed_with 9 object index 0 0 0 (blank_fits object index small) (replicate 128 0 ++ replicate 384 9)
          (append-bytes (replicate 128 0) (replicate 384 9) (zero-bytes 128) (bytes_tested (replicate 384 9) refl));
      format = refl;
      numbered = refl;
    }

pub blank_status : (object : ℕ) (index : SlotIndex) → status (blank_slot object index) ≡ SlotStatus.Blank
unfolding validate is_slot_length
blank_status object index = refl

-- ---- records

pub volume_bytes : AllBytes (volume_record false) × AllBytes (volume_record true) × AllBytes (reopened_record false) × AllBytes (reopened_record true)
unfolding volume_record_bytes
volume_bytes = (
  bytes_tested (volume_record false) refl,
  bytes_tested (volume_record true) refl,
  bytes_tested (reopened_record false) refl,
  bytes_tested (reopened_record true) refl,
)

pub volume_accepted : (accepts Volume (volume_record false) ≡ true) × (accepts Volume (volume_record true) ≡ true)
    × (accepts Volume (reopened_record false) ≡ true) × (accepts Volume (reopened_record true) ≡ true)
unfolding volume_record_bytes decode_volume base_at tail_at check_volume check_base check_tail entries_per_page block_size le
volume_accepted = (refl, refl, refl, refl)

pub clean_marks : (clean_mark (volume_record false) ≡ false) × (clean_mark (volume_record true) ≡ true)
    × (clean_mark (reopened_record false) ≡ false) × (clean_mark (reopened_record true) ≡ true)
unfolding volume_record_bytes decode_volume base_at tail_at check_volume check_base check_tail entries_per_page block_size le
clean_marks = (refl, refl, refl, refl)

pub volume_room : (owner : ℕ) (mark : Bool) → 128 + length (volume_by owner mark) ≤ 512
unfolding volume_record_bytes
volume_room owner mark = lit≤ tt

pub page_bytes : (index next : ℕ) → AllBytes (page_record index next)
unfolding page_header_bytes
page_bytes index next =
    row_bytes (page_header_row (record { page_index = index; next_seq = next; count = 0 }))
    (number_bytes 0 4 index, (number_bytes 0 4 next, (number_bytes 0 2 0, (zero-bytes 14, tt))))

pub page_fits : (index next : ℕ) → 128 + length (page_record index next) ≤ 512
unfolding page_header_bytes
page_fits index next = lit≤ tt

pub page_accepted : (accepts (Page 0 41) (page_record 0 1) ≡ true) × (accepts (Page 0 41) (page_record 0 2) ≡ true)
    × (accepts (Page 0 41) (page_record 0 0x304) ≡ true) × (accepts (Page 0 41) (page_record 0 0x21b9_61ac) ≡ true)
    × (accepts (Page 1 41) (page_record 1 0) ≡ true) × (accepts (Page 1 41) (page_record 1 1) ≡ true)
unfolding page_header_bytes decode_page header_at entries le
page_accepted = (refl, refl, refl, refl, refl, refl)

-- ---- the store

-- The checksums of the first page's headers and payloads.
pub older_sums : (header_crc older_fields (page_record 0 1) ≡ 0x588e_9174) × (crc32c (page_record 0 1) ≡ 0xb3b8_1b53)
unfolding header_crc header_bytes page_header_bytes crc32c final_remainder remainder digest reversed
older_sums = (refl, refl)

pub newer_sums : (header_crc newer_fields (page_record 0 2) ≡ 0xe83c_e718) × (crc32c (page_record 0 2) ≡ 0xea7c_0394)
unfolding header_crc header_bytes page_header_bytes crc32c final_remainder remainder digest reversed
newer_sums = (refl, refl)

-- `encode` refuses none of the slots.
pub none_refused : (encode_check volume_fields (volume_record false) 512 ≡ Ok tt) × (encode_check older_fields (page_record 0 1) 512 ≡ Ok tt)
    × (encode_check newer_fields (page_record 0 2) 512 ≡ Ok tt) × (encode_check second_fields (page_record 1 0) 512 ≡ Ok tt)
unfolding encode_check volume_record_bytes page_header_bytes
none_refused = (refl, refl, refl, refl)

numbers_ok : (number_ok 2 true 1 ≡ true) × (number_ok 2 true 2 ≡ true) × (number_ok 2 true 3 ≡ true) × (number_ok 2 true 4 ≡ true)
numbers_ok = (refl, refl, refl, refl)

volume_fits : Fits volume_fields
volume_fits = fields_fit 9 0 SlotIndex.A 1 0 1 (lit< tt) (lit< tt) (lit< tt) (lit< tt) (lit< tt) (lit< tt)

older_fits : Fits older_fields
older_fits = fields_fit 9 1 SlotIndex.A 1 0 2 (lit< tt) (lit< tt) (lit< tt) (lit< tt) (lit< tt) (lit< tt)

newer_fits : Fits newer_fields
newer_fits = fields_fit 9 1 SlotIndex.B 2 0x588e_9174 4 (lit< tt) (lit< tt) (lit< tt) (lit< tt) (lit< tt) (lit< tt)

second_fits : Fits second_fields
second_fits = fields_fit 9 2 SlotIndex.A 1 0 3 (lit< tt) (lit< tt) (lit< tt) (lit< tt) (lit< tt) (lit< tt)

volume_known : Known volume_fields (volume_record false) Volume
volume_known =
    written_known 9 0 SlotIndex.A 1 0 1 volume_fits (volume_record false) volume_bytes.0 none_refused.0 numbers_ok.0 Volume
    volume_accepted.0

pub older_known : Known older_fields (page_record 0 1) (Page 0 41)
older_known =
    written_known 9 1 SlotIndex.A 1 0 2 older_fits (page_record 0 1) (page_bytes 0 1) none_refused.1 numbers_ok.1
    (Page 0 41) page_accepted.0

pub newer_known : Known newer_fields (page_record 0 2) (Page 0 41)
newer_known =
    written_known 9 1 SlotIndex.B 2 0x588e_9174 4 newer_fits (page_record 0 2) (page_bytes 0 2) none_refused.2
    numbers_ok.3 (Page 0 41) page_accepted.1

second_known : Known second_fields (page_record 1 0) (Page 1 41)
second_known =
    written_known 9 2 SlotIndex.A 1 0 3 second_fits (page_record 1 0) (page_bytes 1 0) none_refused.3 numbers_ok.2
    (Page 1 41) page_accepted.4

-- A of generation 1, B Blank.
first_written : (object number : ℕ) (payload : List ℕ) (decoder : Decoder) {operator : ℕ} → object ≤ 2 → Known (fields 9 object SlotIndex.A 1 0 number) payload decoder
    → SoundPair (record { a = written_slot (fields 9 object SlotIndex.A 1 0 number) payload; b = blank_slot object SlotIndex.B; decoder = decoder; operator = operator })
first_written object number payload decoder small known =
    record {
      slots = elim [ SlotIndex.A ↦ known.slot | SlotIndex.B ↦ blank_sound object SlotIndex.B small ];
      newer = SlotIndex.A;
      info = info_of (fields 9 object SlotIndex.A 1 0 number) payload;
      valid = known.valid;
      accepted = known.accepted;
      beside = Beside.first refl refl (blank_status object SlotIndex.B);
    }

unfoldable volume_sound : SoundPair volume_pair
unfolding first_written
volume_sound = first_written 0 1 (volume_record false) Volume (lit≤ tt) volume_known

-- A, and B of the generation after it.
unfoldable pub both_written : {a b : SlotFields} {older newer : List ℕ} {decoder : Decoder} {operator : ℕ} → Known a older decoder → Known b newer decoder
    → b.generation ≡ a.generation + 1 → a.meta_seq < b.meta_seq → b.prev_header_crc32c ≡ header_crc a older
    → SoundPair (record { a = written_slot a older; b = written_slot b newer; decoder = decoder; operator = operator })
both_written {a} {b} {older} {newer} older_known newer_known next higher linked =
    record {
      slots = elim [ SlotIndex.A ↦ older_known.slot | SlotIndex.B ↦ newer_known.slot ];
      newer = SlotIndex.B;
      info = info_of b newer;
      valid = newer_known.valid;
      accepted = newer_known.accepted;
      beside = Beside.both (info_of a older) older_known.valid next higher linked older_known.accepted;
    }

unfoldable pub first_sound : SoundPair first_page
unfolding both_written
first_sound = both_written older_known newer_known refl (lit< tt) (sym older_sums.0)

unfoldable second_sound : SoundPair second_page
unfolding first_written
second_sound = first_written 2 3 (page_record 1 0) (Page 1 41) (lit≤ tt) second_known

-- The store with a page as its pair 1.
abbrev store_with : Pair → List Pair
store_with p = volume_pair ∷ p ∷ second_page ∷ []

sound_of : (v p : Pair) → v.decoder ≡ Volume → v.operator ≡ 0 → SoundPair v → p.decoder ≡ Page 0 41 → p.operator ≡ 0 → SoundPair p
    → Sound (v ∷ p ∷ second_page ∷ [])
sound_of v p volume first known page own sound =
    record {
      row =
          IsRow.row volume
          (Every.more (record { index = 0; most = 41; decoder = page }) (Every.more (record { index = 1; most = 41; decoder = refl }) Every.none))
          (rw (first, own) refl);
      pairs = Every.more known (Every.more sound (Every.more second_sound Every.none));
    }

pub sound_with : (p : Pair) → p.decoder ≡ Page 0 41 → p.operator ≡ 0 → SoundPair p → Sound (store_with p)
sound_with p = sound_of volume_pair p refl refl volume_sound

pub volume_last : last_record volume_pair ≡ volume_record false
unfolding volume_sound first_written
volume_last = last_is volume_pair volume_sound ∙ volume_known.record_is

pub second_last : last_record second_page ≡ page_record 1 0
unfolding second_sound first_written
second_last = last_is second_page second_sound ∙ second_known.record_is

pub unmarked_with : (p : Pair) → store_mark (store_with p) ≡ false
unmarked_with p = ap clean_mark volume_last ∙ clean_marks.0

-- That of operator 0: the second page's number does not count.
pub highest_with : (p : Pair) (i j : SlotInfo) → p.operator ≡ 0 → status p.a ≡ SlotStatus.Valid i → status p.b ≡ SlotStatus.Valid j
    → highest (numbers 0 (shown (store_with p))) ≡ max 1 (max 0 (max i.meta_seq (max j.meta_seq 0)))
highest_with p i j own valid_a valid_b =
    simp (
      own,
      valid_number volume_pair SlotIndex.A (info_of volume_fields (volume_record false)) volume_known.valid,
      blank_number volume_pair SlotIndex.B (blank_status 0 SlotIndex.B),
      valid_number p SlotIndex.A i valid_a,
      valid_number p SlotIndex.B j valid_b,
    )

-- That of operator 1.
second_highest : highest (numbers 1 (shown first_store)) ≡ 3
second_highest =
    simp (
      valid_number second_page SlotIndex.A (info_of second_fields (page_record 1 0)) second_known.valid,
      blank_number second_page SlotIndex.B (blank_status 2 SlotIndex.B),
    )

pub sound : Sound first_store
sound = sound_with first_page refl refl first_sound

highest_number : highest (numbers 0 (shown first_store)) ≡ 4
highest_number =
    highest_with first_page (info_of older_fields (page_record 0 1)) (info_of newer_fields (page_record 0 2)) refl older_known.valid newer_known.valid

-- ---- no accident

-- That there is none, as a test.
abbrev safe : List ℕ → List ℕ → List ℕ → List ℕ → Bool
safe s before after payload =
    cond (pointwise nat_eq (take 128 s) (take 128 after))
    (cond (pointwise nat_eq (payload_in s payload) payload) true (not (crc32c (payload_in s payload) == le32 s 28)))
    (cond (pointwise nat_eq (take 128 s) (take 128 before)) true (not (header_sum s (le16 s 12) == le32 s 8)))

safe_none : (s before after payload : List ℕ) → safe s before after payload ≡ true → Accident s before after payload → ⊥
safe_none s before after payload =
    go (pointwise nat_eq (take 128 s) (take 128 after)) refl (pointwise nat_eq (payload_in s payload) payload) refl (pointwise nat_eq (take 128 s) (take 128 before)) refl
  where
    go : (x : Bool) → pointwise nat_eq (take 128 s) (take 128 after) ≡ x → (y : Bool) → pointwise nat_eq (payload_in s payload) payload ≡ y
        → (z : Bool) → pointwise nat_eq (take 128 s) (take 128 before) ≡ z
        → cond x (cond y true (not (crc32c (payload_in s payload) == le32 s 28)))
        (cond z true (not (header_sum s (le16 s 12) == le32 s 8))) ≡ true
        → Accident s before after payload → ⊥
    go true is_new true same_payload z is_old test (Accident.header passes not_old not_new) =
        not_new ((bytes_decides (take 128 s) (take 128 after)).0 is_new)
    go true is_new true same_payload z is_old test (Accident.payload header other passes) = other ((bytes_decides (payload_in s payload) payload).0 same_payload)
    go true is_new false same_payload z is_old test accident =
        failed_payload s before after payload ((bytes_decides (take 128 s) (take 128 after)).0 is_new)
        (λ stored. false_true {A = ⊥} (not-true _ test) (eq-eqb _ _ stored)) accident
    go false is_new y same_payload true is_old test (Accident.header passes not_old not_new) =
        not_old ((bytes_decides (take 128 s) (take 128 before)).0 is_old)
    go false is_new y same_payload true is_old test (Accident.payload header other passes) = differ (take 128 s) (take 128 after) is_new header
    go false is_new y same_payload false is_old test accident =
        failed_sum s before after payload (differ (take 128 s) (take 128 after) is_new)
        (λ stored. false_true {A = ⊥} (not-true _ test) (eq-eqb _ _ stored)) accident

-- Under the old header no payload but the old one passes.
abbrev older_safe : List ℕ → List ℕ → Bool
older_safe s before =
    cond (pointwise nat_eq (take 128 s) (take 128 before))
    (cond (pointwise nat_eq (payload_by before s) (payload_by before before)) true (not (crc32c (payload_by before s) == le32 s 28))) true

older_kept : (s before : List ℕ) → older_safe s before ≡ true
    → take 128 s ≡ take 128 before → crc32c (payload_by before s) ≡ le32 s 28 → payload_by before s ≡ payload_by before before
older_kept s before test same_header sum =
    go (pointwise nat_eq (take 128 s) (take 128 before)) ((bytes_decides (take 128 s) (take 128 before)).1 same_header)
    (pointwise nat_eq (payload_by before s) (payload_by before before)) refl test
  where
    go : (x : Bool) → x ≡ true → (y : Bool) → pointwise nat_eq (payload_by before s) (payload_by before before) ≡ y
        → cond x (cond y true (not (crc32c (payload_by before s) == le32 s 28))) true ≡ true
        → payload_by before s ≡ payload_by before before
    go true is true same test = (bytes_decides (payload_by before s) (payload_by before before)).0 same
    go true is false other test = false_true (not-true _ test) (eq-eqb _ _ sum)
    go false is y same test = false_true refl is

-- The tests of a cut of a slot of some size: k is 0 or from 8 to that size, and there is no accident.
abbrev point_test : ℕ → ℕ → Bool
point_test size k = cond (eqb k 0) true (cond (leb 8 k) (leb k size) false)

abbrev pub tear_tests : ℕ → Tear → List ℕ → List ℕ → List ℕ → Bool
tear_tests size (Ascending k) after before payload = cond (point_test size k) (safe (torn (Ascending k) after before) before after payload) false
tear_tests size (Sectors reached) after before payload =
    cond (older_safe (torn (Sectors reached) after before) before) (safe (torn (Sectors reached) after before) before after payload) false

point : (size k : ℕ) → point_test size k ≡ true → CutPoint k size
point size k = go (eqb k 0) refl (leb 8 k) refl
  where
    go : (none : Bool) → eqb k 0 ≡ none → (from_8 : Bool) → leb 8 k ≡ from_8 → cond none true (cond from_8 (leb k size) false) ≡ true → CutPoint k size
    go true none from_8 from test = inl (eqb-true k 0 none)
    go false none true from test = inr (leb-true 8 k from, leb-true k size test)
    go false none false from test = false_true refl test

-- They are enough.
module _ (size : ℕ) (before after payload : List ℕ) where
  tested : (tear : Tear) → tear_tests size tear after before payload ≡ true
      → Possible tear size × (AccidentBy tear (torn tear after before) before after payload → ⊥)
  tested (Ascending k) = go (point_test size k) refl
    where
      go : (in_range : Bool) → point_test size k ≡ in_range → cond in_range (safe (torn (Ascending k) after before) before after payload) false ≡ true
          → CutPoint k size × (Accident (torn (Ascending k) after before) before after payload → ⊥)
      go true is test = (point size k is, safe_none (torn (Ascending k) after before) before after payload test)
      go false is test = false_true refl test
  tested (Sectors reached) = go (older_safe (torn (Sectors reached) after before) before) refl
    where
      go : (kept : Bool) → older_safe (torn (Sectors reached) after before) before ≡ kept
          → cond kept (safe (torn (Sectors reached) after before) before after payload) false ≡ true
          → Unit {0} × (SectorAccident (torn (Sectors reached) after before) before after payload → ⊥)
      go true is test = (
        tt,
        older_at_most (torn (Sectors reached) after before) before after payload (safe_none (torn (Sectors reached) after before) before after payload test)
            (λ passes. older_kept (torn (Sectors reached) after before) before is),
      )
      go false is test = false_true refl test

module _ (w : Write) (sound_store : Sound (store w)) (few : length (store w) ≤ most_pairs) (first_is : VolumeIfMarked w.before w.pair w.behind)
    (right : CorrectWrite w) (before after : List ℕ) (old_is : old w ≡ before) (new_is : new w ≡ after) where
  -- Of a correct write to a sound store, of pair 0 where the mark is set, the tests are all that is left.
  pub met_by : tear_tests (size w) w.tear after before w.payload ≡ true → IsMet w
  met_by tests =
      let no_accident = tested (size w) before after w.payload w.tear tests in
      record { sound = sound_store; few = few; first = first_is; correct = right; possible = no_accident.0; none = rw (new_is, old_is) no_accident.1 }

pub unmarked_first : (w : Write) → store_mark (store w) ≡ false → VolumeIfMarked w.before w.pair w.behind
unmarked_first w none = unmarked_asked w.before w.pair w.behind none

-- ---- writes

-- The identity is that of the slot.
module _ (before : List Pair) (p : Pair) (behind : List Pair) (f : SlotFields) (fits : Fits f) (format : f.format_major ≡ 2)
    (asked : read_with f ≡ (slot_at f.slot_index p).expect) where
  pub fields_written : {generation prev number : ℕ} → f.generation ≡ generation → f.prev_header_crc32c ≡ prev → f.meta_seq ≡ number
      → (payload : List ℕ) → AllBytes payload → accepts p.decoder payload ≡ true → 128 + length payload ≤ 2 ^ f.log2_slot_size
      → (tear : Tear) → Written generation prev number (write_to before p behind f payload tear)
  fields_written generation prev number payload payload_bytes accepted room tear =
      record {
        format = format;
        volume = ap (λ (e : Expect). e.volume_uuid) asked;
        object = ap (λ (e : Expect). e.object_id) asked;
        offset = ap (λ (e : Expect). e.slot_offset) asked;
        index = ap (λ (e : Expect). e.slot_index) asked;
        log2 = ap (λ (e : Expect). e.log2_slot_size) asked;
        generation_is = generation;
        generation_fits = fits.generation;
        prev_is = prev;
        number_is = number;
        number_fits = fits.number;
        owner = fits.owner;
        compat = fits.compat;
        bytes = payload_bytes;
        accepted = accepted;
        fits = room;
        room = length-replicate (2 ^ f.log2_slot_size) 0;
      }

  pub write_correct : {n : ℕ} → f.meta_seq ≡ n → (i : SlotInfo) → winner_info (report p) ≡ Some ((other f.slot_index), i)
      → f.generation ≡ i.generation + 1 → f.prev_header_crc32c ≡ i.header_crc32c
      → (payload : List ℕ) → AllBytes payload → accepts p.decoder payload ≡ true → 128 + length payload ≤ 2 ^ f.log2_slot_size
      → (tear : Tear) → CorrectWith n (write_to before p behind f payload tear)
  write_correct number i won generation prev payload payload_bytes accepted room tear =
      record { winner = i; won = won; written = fields_written generation prev number payload payload_bytes accepted room tear }

-- The number is one above its operator's highest n.
pub one_above : {m n : ℕ} → m ≡ n → n + 1 ≡ m + 1
one_above is = ap (λ (k : ℕ). k + 1) (sym is)

-- A slot with its checksums as numbers.
abbrev pub summed_slot : ℕ → ℕ → SlotFields → List ℕ → List ℕ
summed_slot crc payload_crc f payload =
    header_bytes crc f (length payload) payload_crc ++ (payload ++ replicate (2 ^ f.log2_slot_size - 128 - length payload) 0)

pub summed_is : (f : SlotFields) (payload : List ℕ) (crc payload_crc : ℕ)
    → encode_check f payload (2 ^ f.log2_slot_size) ≡ Ok tt
    → header_crc f payload ≡ crc → crc32c payload ≡ payload_crc
    → (encode f payload (zeros_for f)).0 ≡ summed_slot crc payload_crc f payload
unfolding encode slot_bytes written_header
summed_is f payload crc payload_crc none sum payload_sum =
    ap (λ (answer : Result (Unit {0}) EncodeError). (encoded f payload (zeros_for f) answer).0) (ap (encode_check f payload) (length-replicate (2 ^ f.log2_slot_size) 0) ∙ none)
    ∙ simp (sum, payload_sum)

-- ---- a write to a page

pub new_fits : Fits new_fields
new_fits = fields_fit 9 1 SlotIndex.A 3 0xe83c_e718 5 (lit< tt) (lit< tt) (lit< tt) (lit< tt) (lit< tt) (lit< tt)

page_correct : (k : ℕ) → CorrectWrite (page_write k)
unfolding first_sound both_written
page_correct k =
    write_correct (volume_pair ∷ []) first_page (second_page ∷ []) new_fields new_fits refl refl (one_above highest_number)
    (info_of newer_fields (page_record 0 2)) (sound_won first_page first_sound) refl (sym newer_sums.0) (page_record 0 0x304) (page_bytes 0 0x304)
    page_accepted.2
    (page_fits 0 0x304) (Ascending k)

pub new_sums : (header_crc new_fields (page_record 0 0x304) ≡ 0xd61e_00d0) × (crc32c (page_record 0 0x304) ≡ 0x9755_91c2)
unfolding header_crc header_bytes page_header_bytes crc32c final_remainder remainder digest reversed
new_sums = (refl, refl)

pub new_refusal : encode_check new_fields (page_record 0 0x304) 512 ≡ Ok tt
unfolding encode_check page_header_bytes
new_refusal = refl

abbrev pub old_page : List ℕ
old_page = summed_slot 0x588e_9174 0xb3b8_1b53 older_fields (page_record 0 1)

abbrev pub new_page : List ℕ
new_page = summed_slot 0xd61e_00d0 0x9755_91c2 new_fields (page_record 0 0x304)

pub old_page_is : (encode older_fields (page_record 0 1) (zeros_for older_fields)).0 ≡ old_page
old_page_is = summed_is older_fields (page_record 0 1) 0x588e_9174 0xb3b8_1b53 none_refused.1 older_sums.0 older_sums.1

pub new_page_is : (encode new_fields (page_record 0 0x304) (zeros_for new_fields)).0 ≡ new_page
new_page_is = summed_is new_fields (page_record 0 0x304) 0xd61e_00d0 0x9755_91c2 new_refusal new_sums.0 new_sums.1

page_met : (k : ℕ) → tear_tests 512 (Ascending k) new_page old_page (page_record 0 0x304) ≡ true → IsMet (page_write k)
page_met k =
    met_by (page_write k) sound (lit≤ tt) (unmarked_first (page_write k) (unmarked_with first_page)) (page_correct k) old_page new_page old_page_is
    new_page_is

pub page_cuts : PageMet
unfolding cut header_sum header_bytes page_header_bytes le crc32c final_remainder remainder digest reversed
page_cuts =
    Every.more (page_met 0 refl)
    (Every.more (page_met 8 refl)
    (Every.more (page_met 11 refl)
    (Every.more (page_met 64 refl)
    (Every.more (page_met 127 refl)
    (Every.more (page_met 128 refl)
    (Every.more (page_met 133 refl) (Every.more (page_met 134 refl) (Every.more (page_met 512 refl) Every.none))))))))

pub page_whole : StandsWhole
unfolding stands_whole cut header_bytes page_header_bytes
page_whole = (whole_at 133, whole_at 134)
  where
    whole_at : (k : ℕ) → whole (page_write k) ≡ stands_whole (cut k new_page old_page) new_page (page_record 0 0x304)
    whole_at k = rw (new_page_is, old_page_is)

-- ---- a write to the volume record, with its clean mark set

volume_sums : (header_crc volume_fields (volume_record false) ≡ 0x1d15_7c74) × (crc32c (volume_record false) ≡ 0x69eb_46ec)
unfolding header_crc header_bytes volume_record_bytes crc32c final_remainder remainder digest reversed
volume_sums = (refl, refl)

pub marked_fits : Fits marked_fields
marked_fits = fields_fit 9 0 SlotIndex.B 2 0x1d15_7c74 5 (lit< tt) (lit< tt) (lit< tt) (lit< tt) (lit< tt) (lit< tt)

volume_correct : (k : ℕ) → CorrectWrite (volume_write k)
unfolding volume_sound first_written
volume_correct k =
    write_correct [] volume_pair (first_page ∷ second_page ∷ []) marked_fields marked_fits refl refl (one_above highest_number)
    (info_of volume_fields (volume_record false)) (sound_won volume_pair volume_sound) refl (sym volume_sums.0) (volume_record true) volume_bytes.1
    volume_accepted.1
    (volume_room 1 true) (Ascending k)

pub marked_sums : (header_crc marked_fields (volume_record true) ≡ 0x880c_0bb0) × (crc32c (volume_record true) ≡ 0xa2bd_3d49)
unfolding header_crc header_bytes volume_record_bytes crc32c final_remainder remainder digest reversed
marked_sums = (refl, refl)

marked_refusal : encode_check marked_fields (volume_record true) 512 ≡ Ok tt
unfolding encode_check volume_record_bytes
marked_refusal = refl

abbrev pub blank_bytes : List ℕ
blank_bytes = (blank_slot 0 SlotIndex.B).bytes

abbrev pub marked_bytes : List ℕ
marked_bytes = summed_slot 0x880c_0bb0 0xa2bd_3d49 marked_fields (volume_record true)

pub marked_bytes_is : (encode marked_fields (volume_record true) (zeros_for marked_fields)).0 ≡ marked_bytes
marked_bytes_is = summed_is marked_fields (volume_record true) 0x880c_0bb0 0xa2bd_3d49 marked_refusal marked_sums.0 marked_sums.1

volume_met : (k : ℕ) → tear_tests 512 (Ascending k) marked_bytes blank_bytes (volume_record true) ≡ true → IsMet (volume_write k)
volume_met k =
    met_by (volume_write k) sound (lit≤ tt) (λ set. refl) (volume_correct k) blank_bytes marked_bytes refl marked_bytes_is

pub volume_cuts : VolumeMet
unfolding cut header_sum header_bytes volume_record_bytes le crc32c final_remainder remainder digest reversed
volume_cuts =
    Every.more (volume_met 0 refl)
    (Every.more (volume_met 8 refl)
    (Every.more (volume_met 11 refl)
    (Every.more (volume_met 64 refl)
    (Every.more (volume_met 128 refl) (Every.more (volume_met 191 refl) (Every.more (volume_met 192 refl) Every.none))))))

-- The judge is handed the new record's mark once that record stands whole.
pub handed_is : (w : Write) {before after : List ℕ} {mark : Bool} → w.before ≡ [] → old w ≡ before → new w ≡ after → store_mark (store w) ≡ mark
    → handed w ≡ cond (stands_whole (torn w.tear after before) after w.payload) (clean_mark w.payload) mark
unfolding handed
handed_is w first old_is new_is mark_is = rw (mark_is, first, old_is, new_is) refl

pub volume_marks : MarkHanded
unfolding stands_whole cut header_bytes volume_record_bytes
volume_marks = (
  torn_handed (volume_write 191) (whole_at 191) ∙ unmarked_with first_page,
  whole_handed (volume_write 192) refl (whole_at 192) ∙ clean_marks.1,
)
  where
    whole_at : (k : ℕ) → whole (volume_write k) ≡ stands_whole (cut k marked_bytes blank_bytes) marked_bytes (volume_record true)
    whole_at k = rw marked_bytes_is

-- ---- a write to the volume record of a closed store, with its clean mark cleared

marked_known : Known marked_fields (volume_record true) Volume
marked_known =
    written_known 9 0 SlotIndex.B 2 0x1d15_7c74 5 marked_fits (volume_record true) volume_bytes.1 marked_refusal refl Volume volume_accepted.1

unfoldable closed_sound : SoundPair closed_volume
unfolding both_written
closed_sound = both_written volume_known marked_known refl (lit< tt) (sym volume_sums.0)

pub closed_store_sound : Sound closed_store
closed_store_sound = sound_of closed_volume first_page refl refl closed_sound refl refl first_sound

pub closed_marked : store_mark closed_store ≡ true
unfolding closed_sound both_written
closed_marked = ap clean_mark (last_is closed_volume closed_sound ∙ marked_known.record_is) ∙ clean_marks.1

closed_highest : highest (numbers 0 (shown closed_store)) ≡ 5
closed_highest =
    simp (
      valid_number closed_volume SlotIndex.A (info_of volume_fields (volume_record false)) volume_known.valid,
      valid_number closed_volume SlotIndex.B (info_of marked_fields (volume_record true)) marked_known.valid,
      valid_number first_page SlotIndex.A (info_of older_fields (page_record 0 1)) older_known.valid,
      valid_number first_page SlotIndex.B (info_of newer_fields (page_record 0 2)) newer_known.valid,
    )

pub opening_fits : Fits opening_fields
opening_fits = fields_fit 9 0 SlotIndex.A 3 0x880c_0bb0 6 (lit< tt) (lit< tt) (lit< tt) (lit< tt) (lit< tt) (lit< tt)

opening_correct : (k : ℕ) → CorrectWrite (opening_write k)
unfolding closed_sound both_written
opening_correct k =
    write_correct [] closed_volume (first_page ∷ second_page ∷ []) opening_fields opening_fits refl refl (one_above closed_highest)
    (info_of marked_fields (volume_record true)) (sound_won closed_volume closed_sound) refl (sym marked_sums.0) (reopened_record false) volume_bytes.2
    volume_accepted.2
    (volume_room 2 false) (Ascending k)

pub opening_sums : (header_crc opening_fields (reopened_record false) ≡ 0x9172_d3ee) × (crc32c (reopened_record false) ≡ 0xced8_5615)
unfolding header_crc header_bytes volume_record_bytes crc32c final_remainder remainder digest reversed
opening_sums = (refl, refl)

opening_refusal : encode_check opening_fields (reopened_record false) 512 ≡ Ok tt
unfolding encode_check volume_record_bytes
opening_refusal = refl

abbrev pub volume_slot : List ℕ
volume_slot = summed_slot 0x1d15_7c74 0x69eb_46ec volume_fields (volume_record false)

abbrev pub opening_bytes : List ℕ
opening_bytes = summed_slot 0x9172_d3ee 0xced8_5615 opening_fields (reopened_record false)

pub volume_slot_is : (encode volume_fields (volume_record false) (zeros_for volume_fields)).0 ≡ volume_slot
volume_slot_is = summed_is volume_fields (volume_record false) 0x1d15_7c74 0x69eb_46ec none_refused.0 volume_sums.0 volume_sums.1

pub opening_bytes_is : (encode opening_fields (reopened_record false) (zeros_for opening_fields)).0 ≡ opening_bytes
opening_bytes_is = summed_is opening_fields (reopened_record false) 0x9172_d3ee 0xced8_5615 opening_refusal opening_sums.0 opening_sums.1

opening_met : (k : ℕ) → tear_tests 512 (Ascending k) opening_bytes volume_slot (reopened_record false) ≡ true → IsMet (opening_write k)
opening_met k =
    met_by (opening_write k) closed_store_sound (lit≤ tt) (λ set. refl) (opening_correct k) volume_slot opening_bytes
    volume_slot_is opening_bytes_is

pub opening_cuts : OpeningMet
unfolding cut header_sum header_bytes volume_record_bytes le crc32c final_remainder remainder digest reversed
opening_cuts =
    Every.more (opening_met 0 refl)
    (Every.more (opening_met 8 refl)
    (Every.more (opening_met 11 refl)
    (Every.more (opening_met 64 refl)
    (Every.more (opening_met 128 refl)
    (Every.more (opening_met 136 refl) (Every.more (opening_met 137 refl) (Every.more (opening_met 192 refl) Every.none)))))))

pub opening_marks : OldMarkHanded
unfolding stands_whole cut header_bytes volume_record_bytes
opening_marks = (
  torn_handed (opening_write 136) (whole_at 136) ∙ closed_marked,
  whole_handed (opening_write 137) refl (whole_at 137) ∙ clean_marks.2,
)
  where
    whole_at : (k : ℕ) → whole (opening_write k) ≡ stands_whole (cut k opening_bytes volume_slot) opening_bytes (reopened_record false)
    whole_at k = rw (volume_slot_is, opening_bytes_is)

-- ---- a write of a page over a Blank slot

pub second_sum : header_crc second_fields (page_record 1 0) ≡ 0x2c8c_2a3c
unfolding header_crc header_bytes page_header_bytes crc32c final_remainder remainder digest reversed
second_sum = refl

pub next_fits : Fits next_fields
next_fits = fields_fit 9 2 SlotIndex.B 2 0x2c8c_2a3c _ (lit< tt) (lit< tt) (lit< tt) (lit< tt) (lit< tt) (lit< tt)

second_correct : (k : ℕ) → CorrectWrite (second_write k)
unfolding second_sound first_written
second_correct k =
    write_correct (volume_pair ∷ first_page ∷ []) second_page [] next_fields next_fits refl refl (one_above second_highest)
    (info_of second_fields (page_record 1 0)) (sound_won second_page second_sound) refl (sym second_sum) (page_record 1 1) (page_bytes 1 1)
    page_accepted.5
    (page_fits 1 1) (Ascending k)

pub next_sums : (header_crc next_fields (page_record 1 1) ≡ 0x1916_772d) × (crc32c (page_record 1 1) ≡ 0x09f7_d9dd)
unfolding header_crc header_bytes page_header_bytes crc32c final_remainder remainder digest reversed
next_sums = (refl, refl)

pub next_refusal : encode_check next_fields (page_record 1 1) 512 ≡ Ok tt
unfolding encode_check page_header_bytes
next_refusal = refl

abbrev pub next_page : List ℕ
next_page = summed_slot 0x1916_772d 0x09f7_d9dd next_fields (page_record 1 1)

pub next_page_is : (encode next_fields (page_record 1 1) (zeros_for next_fields)).0 ≡ next_page
next_page_is = summed_is next_fields (page_record 1 1) 0x1916_772d 0x09f7_d9dd next_refusal next_sums.0 next_sums.1

pub second_cut : SecondMet
unfolding cut header_sum header_bytes page_header_bytes le crc32c final_remainder remainder digest reversed
second_cut =
    met_by (second_write 140) sound (lit≤ tt) (unmarked_first (second_write 140) (unmarked_with first_page)) (second_correct 140) blank_bytes
    next_page refl next_page_is refl

-- ---- a write over an older slot B

new_known : Known new_fields (page_record 0 0x304) (Page 0 41)
new_known =
    written_known 9 1 SlotIndex.A 3 0xe83c_e718 5 new_fits (page_record 0 0x304) (page_bytes 0 0x304) new_refusal refl
    (Page 0 41) page_accepted.2

unfoldable later_sound : SoundPair later_page
later_sound =
    record {
      slots = elim [ SlotIndex.A ↦ new_known.slot | SlotIndex.B ↦ newer_known.slot ];
      newer = SlotIndex.A;
      info = info_of new_fields (page_record 0 0x304);
      valid = new_known.valid;
      accepted = new_known.accepted;
      beside =
          Beside.both (info_of newer_fields (page_record 0 2)) newer_known.valid refl (lit< tt) (sym newer_sums.0) newer_known.accepted;
    }

pub later_store_sound : Sound later_store
later_store_sound = sound_with later_page refl refl later_sound

later_sums : (header_crc later_fields (page_record 0 0x21b9_61ac) ≡ 0xe83c_e718) × (crc32c (page_record 0 0x21b9_61ac) ≡ 0x906d_1021)
unfolding header_crc header_bytes page_header_bytes crc32c final_remainder remainder digest reversed
later_sums = (refl, refl)

later_refusal : encode_check later_fields (page_record 0 0x21b9_61ac) 512 ≡ Ok tt
unfolding encode_check page_header_bytes
later_refusal = refl

later_fits : Fits later_fields
later_fits = fields_fit 9 1 SlotIndex.B 4 0xd61e_00d0 6 (lit< tt) (lit< tt) (lit< tt) (lit< tt) (lit< tt) (lit< tt)

later_correct : (k : ℕ) → CorrectWrite (later_write k)
unfolding later_sound
later_correct k =
    write_correct (volume_pair ∷ []) later_page (second_page ∷ []) later_fields later_fits refl refl
    (one_above
    (highest_with later_page (info_of new_fields (page_record 0 0x304)) (info_of newer_fields (page_record 0 2)) refl new_known.valid newer_known.valid))
    (info_of new_fields (page_record 0 0x304)) (sound_won later_page later_sound) refl (sym new_sums.0) (page_record 0 0x21b9_61ac)
    (page_bytes 0 0x21b9_61ac)
    page_accepted.3
    (page_fits 0 0x21b9_61ac) (Ascending k)

abbrev pub newer_slot : List ℕ
newer_slot = summed_slot 0xe83c_e718 0xea7c_0394 newer_fields (page_record 0 2)

abbrev pub later_slot : List ℕ
later_slot = summed_slot 0xe83c_e718 0x906d_1021 later_fields (page_record 0 0x21b9_61ac)

pub newer_slot_is : (encode newer_fields (page_record 0 2) (zeros_for newer_fields)).0 ≡ newer_slot
newer_slot_is = summed_is newer_fields (page_record 0 2) 0xe83c_e718 0xea7c_0394 none_refused.2 newer_sums.0 newer_sums.1

pub later_slot_is : (encode later_fields (page_record 0 0x21b9_61ac) (zeros_for later_fields)).0 ≡ later_slot
later_slot_is =
    summed_is later_fields (page_record 0 0x21b9_61ac) 0xe83c_e718 0x906d_1021 later_refusal later_sums.0 later_sums.1

later_met : (k : ℕ) → tear_tests 512 (Ascending k) later_slot newer_slot (page_record 0 0x21b9_61ac) ≡ true → IsMet (later_write k)
later_met k =
    met_by (later_write k) later_store_sound (lit≤ tt) (unmarked_first (later_write k) (unmarked_with later_page)) (later_correct k) newer_slot
    later_slot newer_slot_is later_slot_is

pub later_cuts : LaterMet
unfolding cut header_sum header_bytes page_header_bytes le crc32c final_remainder remainder digest reversed
later_cuts = Every.more (later_met 64 refl) (Every.more (later_met 133 refl) Every.none)

-- ---- the hypotheses are the theorem's

pub met_is_enough : MetIsEnough
met_is_enough w met out room = cut_theorem w met.sound met.few met.first met.correct met.possible met.none out room
