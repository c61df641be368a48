-- What specs/Writes.antt and specs/Cuts.antt say of the write of a page of four entries, cut by sectors and in ascending order.
use Rattle.std.proofs.Common.{◌≡◌, refl, sym, ◌∙◌, Bool, true, List, [], ◌∷◌, ℕ, ◌+◌, ◌≤◌, lit≤, lit<, length, Some, Ok}
use Rattle.codec.specs.Bytes.{AllBytes, le}
use Rattle.codec.specs.Crc32c.{crc32c, final_remainder, remainder, digest, reversed}
use Rattle.slot.specs.Payload.{payload as payload_of}
use Rattle.slot.specs.Read.{is_slot_length, header_sum, passes_checksum, is_malformed, check, passes_payload}
use Rattle.slot.specs.Write.{header_bytes, header_crc, encode_check, encode}
use Rattle.slot.specs.Laws.{Fits, info_of}
use Rattle.slot.specs.declared.slot.SlotIndex.{SlotIndex}
use Rattle.slot.specs.declared.slot.SlotInfo.{SlotInfo}
use Rattle.pair.specs.Pair.{decide, winner_info}
use Rattle.judge.specs.Verdict.{by_index}
use Rattle.judge.specs.Judge.{first_verdicts, first_tally, row_rules, verdicts, judgement}
use Rattle.judge.specs.Part.{part_bytes}
use Rattle.judge.specs.Frames.{frames_error, judge_frames, frames_left}
use Rattle.judge.specs.Same.{filled}
use Rattle.judge.specs.declared.records.SlotRead.{SlotRead}
use Rattle.meta.specs.Entry.{entry_bytes}
use Rattle.meta.specs.Page.{header_at, decode_page, entries, header_bytes as page_header_bytes, page_bytes}
use Rattle.cut.specs.Store.{Every, Page, accepts, SoundPair, Sound}
use Rattle.cut.specs.Cut.{Tear, Ascending, Sectors, Write, with_slot, cut, by_sector, torn, CorrectWrite, stands_whole, whole}
use Rattle.cut.proofs.ByteLaws.{bytes_tested}
use Rattle.cut.proofs.StateLaws.{sound_won}
use Rattle.cut_examples.specs.Stores.{long_record, zeros_for, volume_pair, first_page, second_page, later_page, long_older_fields, long_newer_fields, long_page, long_store}
use Rattle.cut_examples.specs.Writes.{IsMet, StoresSound, StoresMarked, write_to, long_fields, long_write, long_write_in_order, neither, the_first, the_second, both, LongMet, LongInOrderMet, LongWhole, LongInOrderWhole}
use Rattle.cut_examples.specs.Computed.{torn_payload, valid_read}
use Rattle.cut_examples.specs.Cuts.{SectorCuts, LongCuts}
use Rattle.cut_examples.proofs.Writes.{Known, fields_fit, written_known, both_written, sound, closed_store_sound, closed_marked, later_store_sound, sound_with, unmarked_with, unmarked_first, highest_with, tear_tests, met_by, write_correct, one_above, summed_slot, summed_is}
use Rattle.cut_examples.proofs.SlotsRead.{PairRecord, read_once, read_once_is, pair_record}
use Rattle.cut_examples.proofs.Computed.{Written, page_at}

-- ---- the records and the slots

abbrev older_record : List ℕ
older_record = long_record 0x2_0000 2

abbrev pub newer_record : List ℕ
newer_record = long_record 0x2_4000 4

abbrev pub new_record : List ℕ
new_record = long_record 0x2_8000 5

pub record_bytes : AllBytes older_record × AllBytes newer_record × AllBytes new_record
unfolding page_bytes page_header_bytes entry_bytes
record_bytes = (bytes_tested older_record refl, bytes_tested newer_record refl, bytes_tested new_record refl)

pub accepted : (accepts (Page 0 41) older_record ≡ true) × (accepts (Page 0 41) newer_record ≡ true) × (accepts (Page 0 41) new_record ≡ true)
unfolding page_bytes page_header_bytes entry_bytes decode_page header_at entries le
accepted = (refl, refl, refl)

sums : (crc32c older_record ≡ 0x672f_0c46) × (crc32c newer_record ≡ 0x43bd_9a4c) × (crc32c new_record ≡ 0xb775_a3e1)
unfolding page_bytes page_header_bytes entry_bytes crc32c final_remainder remainder digest reversed
sums = (refl, refl, refl)

pub header_sums : (header_crc long_older_fields older_record ≡ 0x3b80_d549) × (header_crc long_newer_fields newer_record ≡ 0xd7d6_5030)
    × (header_crc long_fields new_record ≡ 0x4d45_7736)
unfolding header_crc header_bytes page_bytes page_header_bytes entry_bytes crc32c final_remainder remainder digest reversed
header_sums = (refl, refl, refl)

none_refused : (encode_check long_older_fields older_record 1024 ≡ Ok tt) × (encode_check long_newer_fields newer_record 1024 ≡ Ok tt)
    × (encode_check long_fields new_record 1024 ≡ Ok tt)
unfolding encode_check page_bytes page_header_bytes entry_bytes
none_refused = (refl, refl, refl)

older_fits : Fits long_older_fields
older_fits = fields_fit 10 3 SlotIndex.A 1 0 2 (lit< tt) (lit< tt) (lit< tt) (lit< tt) (lit< tt) (lit< tt)

newer_fits : Fits long_newer_fields
newer_fits = fields_fit 10 3 SlotIndex.B 2 0x3b80_d549 4 (lit< tt) (lit< tt) (lit< tt) (lit< tt) (lit< tt) (lit< tt)

pub new_fits : Fits long_fields
new_fits = fields_fit 10 3 SlotIndex.A 3 0xd7d6_5030 5 (lit< tt) (lit< tt) (lit< tt) (lit< tt) (lit< tt) (lit< tt)

pub older_known : Known long_older_fields older_record (Page 0 41)
older_known = written_known 10 3 SlotIndex.A 1 0 2 older_fits older_record record_bytes.0 none_refused.0 refl (Page 0 41) accepted.0

pub newer_known : Known long_newer_fields newer_record (Page 0 41)
newer_known = written_known 10 3 SlotIndex.B 2 0x3b80_d549 4 newer_fits newer_record record_bytes.1 none_refused.1 refl (Page 0 41) accepted.1

-- With their checksums as numbers.

abbrev pub older_slot : List ℕ
older_slot = summed_slot 0x3b80_d549 0x672f_0c46 long_older_fields older_record

abbrev newer_slot : List ℕ
newer_slot = summed_slot 0xd7d6_5030 0x43bd_9a4c long_newer_fields newer_record

abbrev pub new_slot : List ℕ
new_slot = summed_slot 0x4d45_7736 0xb775_a3e1 long_fields new_record

pub older_slot_is : (encode long_older_fields older_record (zeros_for long_older_fields)).0 ≡ older_slot
older_slot_is = summed_is long_older_fields older_record 0x3b80_d549 0x672f_0c46 none_refused.0 header_sums.0 sums.0

newer_slot_is : (encode long_newer_fields newer_record (zeros_for long_newer_fields)).0 ≡ newer_slot
newer_slot_is = summed_is long_newer_fields newer_record 0xd7d6_5030 0x43bd_9a4c none_refused.1 header_sums.1 sums.1

pub new_slot_is : (encode long_fields new_record (zeros_for long_fields)).0 ≡ new_slot
new_slot_is = summed_is long_fields new_record 0x4d45_7736 0xb775_a3e1 none_refused.2 header_sums.2 sums.2

-- ---- the store and the write

unfoldable pub long_sound : SoundPair long_page
unfolding both_written
long_sound = both_written older_known newer_known refl (lit< tt) (sym header_sums.0)

pub long_store_sound : Sound long_store
long_store_sound = sound_with long_page refl refl long_sound

pub stores_sound : StoresSound
stores_sound = (sound, closed_store_sound, later_store_sound, long_store_sound)

pub stores_marked : StoresMarked
stores_marked = (unmarked_with first_page, closed_marked, unmarked_with later_page, unmarked_with long_page)

pub record_fits : 128 + length new_record ≤ 1024
unfolding page_bytes page_header_bytes entry_bytes
record_fits = lit≤ tt

abbrev torn_long : Tear → Write
torn_long tear = write_to (volume_pair ∷ []) long_page (second_page ∷ []) long_fields new_record tear

long_correct : (tear : Tear) → CorrectWrite (torn_long tear)
unfolding long_sound both_written
long_correct tear =
    write_correct (volume_pair ∷ []) long_page (second_page ∷ []) long_fields new_fits refl refl
    (one_above
    (highest_with long_page (info_of long_older_fields older_record) (info_of long_newer_fields newer_record) refl older_known.valid newer_known.valid))
    (info_of long_newer_fields newer_record) (sound_won long_page long_sound) refl (sym header_sums.1) new_record record_bytes.2 accepted.2
    record_fits tear

-- ---- the cuts

long_met : (tear : Tear) → tear_tests 1024 tear new_slot older_slot new_record ≡ true → IsMet (torn_long tear)
long_met tear =
    met_by (torn_long tear) long_store_sound (lit≤ tt) (unmarked_first (torn_long tear) (unmarked_with long_page)) (long_correct tear)
    older_slot new_slot older_slot_is new_slot_is

pub long_cuts : LongMet
unfolding by_sector payload_of header_sum header_bytes page_bytes page_header_bytes entry_bytes le crc32c final_remainder remainder digest reversed
long_cuts =
    Every.more (long_met (Sectors neither) refl)
    (Every.more (long_met (Sectors the_first) refl) (Every.more (long_met (Sectors the_second) refl) (Every.more (long_met (Sectors both) refl) Every.none)))

pub long_cuts_in_order : LongInOrderMet
unfolding cut payload_of header_sum header_bytes page_bytes page_header_bytes entry_bytes le crc32c final_remainder remainder digest reversed
long_cuts_in_order =
    Every.more (long_met (Ascending 528) refl) (Every.more (long_met (Ascending 529) refl) (Every.more (long_met (Ascending 1024) refl) Every.none))

pub long_whole : LongWhole
unfolding stands_whole by_sector header_bytes page_bytes page_header_bytes entry_bytes
long_whole = (whole_of the_first, whole_of the_second, whole_of both)
  where
    whole_of : (reached : ℕ → Bool) → whole (long_write reached) ≡ stands_whole (by_sector reached 0 new_slot older_slot) new_slot new_record
    whole_of reached = rw (new_slot_is, older_slot_is)

pub long_whole_in_order : LongInOrderWhole
unfolding stands_whole cut header_bytes page_bytes page_header_bytes entry_bytes
long_whole_in_order = (whole_of 528, whole_of 529)
  where
    whole_of : (k : ℕ) → whole (long_write_in_order k) ≡ stands_whole (cut k new_slot older_slot) new_slot new_record
    whole_of k = rw (new_slot_is, older_slot_is)

-- ---- as they are read

abbrev pub newer_read : SlotRead
newer_read = valid_read 2 4 0xd7d6_5030 0x3b80_d549 408

newer_is : read_once newer_slot long_page.b.expect ≡ newer_read
unfolding is_slot_length check passes_checksum is_malformed passes_payload payload_of header_sum header_bytes page_bytes page_header_bytes entry_bytes le crc32c final_remainder remainder digest reversed
newer_is = refl

-- The pair with the bytes s in its slot A, which are read as x.
pub long_with : (s : List ℕ) (x : SlotRead) → read_once s long_page.a.expect ≡ x
    → {index : SlotIndex} {i : SlotInfo} → winner_info (decide x.status newer_read.status) ≡ Some (index, i)
    → {r : List ℕ} → payload_of i (by_index index s newer_slot) ≡ r → accepts (Page 0 41) r ≡ true
    → PairRecord (with_slot SlotIndex.A s long_page) (record { a = x; b = newer_read; operator = 0 }) r
long_with s x read won {r} back takes =
    rw newer_slot_is
    (pair_record s newer_slot long_page.a.expect long_page.b.expect (Page 0 41) (record { a = x; b = newer_read; operator = 0 }) r read newer_is won back takes)

-- With what of the write reached it.
long_read : (tear : Tear) (x : SlotRead) → read_once (torn tear new_slot older_slot) long_page.a.expect ≡ x
    → {index : SlotIndex} {i : SlotInfo} → winner_info (decide x.status newer_read.status) ≡ Some (index, i)
    → {r : List ℕ} → payload_of i (by_index index (torn tear new_slot older_slot) newer_slot) ≡ r → accepts (Page 0 41) r ≡ true
    → Written (torn_long tear) x (record { a = x; b = newer_read; operator = 0 }) r
long_read tear x read won {r} back takes =
    record {
      slot_is = rw (new_slot_is, older_slot_is) (read_once_is (torn tear new_slot older_slot) long_page.a.expect ∙ read);
      pair_is = rw (new_slot_is, older_slot_is) (long_with (torn tear new_slot older_slot) x read won back takes);
    }

pub long_computed : SectorCuts
unfolding by_sector is_slot_length check passes_checksum is_malformed passes_payload payload_of header_sum header_bytes page_bytes page_header_bytes entry_bytes le crc32c final_remainder remainder digest reversed decide filled part_bytes judge_frames frames_left frames_error judgement verdicts row_rules first_verdicts first_tally
long_computed =
    record {
      sectors_none = page_at (long_read (Sectors neither) (valid_read 1 2 0x3b80_d549 0 408) refl refl refl accepted.1) refl refl;
      sectors_first = page_at (long_read (Sectors the_first) (torn_payload 3 5 0x4d45_7736 0xd7d6_5030) refl refl refl accepted.1) refl refl;
      sectors_second = page_at (long_read (Sectors the_second) (torn_payload 1 2 0x3b80_d549 0) refl refl refl accepted.1) refl refl;
      sectors_both = page_at (long_read (Sectors both) (valid_read 3 5 0x4d45_7736 0xd7d6_5030 408) refl refl refl accepted.2) refl refl;
    }

pub long_in_order_computed : LongCuts
unfolding cut is_slot_length check passes_checksum is_malformed passes_payload payload_of header_sum header_bytes page_bytes page_header_bytes entry_bytes le crc32c final_remainder remainder digest reversed decide filled part_bytes judge_frames frames_left frames_error judgement verdicts row_rules first_verdicts first_tally
long_in_order_computed =
    record {
      long_528 = page_at (long_read (Ascending 528) (torn_payload 3 5 0x4d45_7736 0xd7d6_5030) refl refl refl accepted.1) refl refl;
      long_529 = page_at (long_read (Ascending 529) (valid_read 3 5 0x4d45_7736 0xd7d6_5030 408) refl refl refl accepted.2) refl refl;
      long_1024 = page_at (long_read (Ascending 1024) (valid_read 3 5 0x4d45_7736 0xd7d6_5030 408) refl refl refl accepted.2) refl refl;
    }
