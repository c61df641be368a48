-- What specs/Cuts.antt expects is computed from the definitions, without the theorem. How each slot is read is computed first, and from
-- that the frames, the verdicts and the records.
use Rattle.std.proofs.Common.{◌≡◌, refl, ◌∙◌, Bool, true, false, cond, List, [], ◌∷◌, ℕ, replicate, Option, Some, None, Ok}
use Rattle.codec.specs.Bytes.{le}
use Rattle.codec.specs.Crc32c.{crc32c, final_remainder, remainder, digest, reversed}
use Rattle.slot.specs.Payload.{payload as payload_of}
use Rattle.slot.specs.Read.{is_slot_length, header_sum, passes_checksum, is_malformed, check, passes_payload}
use Rattle.slot.specs.Write.{header_bytes, encode}
use Rattle.slot.specs.declared.slot.SlotIndex.{SlotIndex}
use Rattle.slot.specs.declared.slot.SlotInfo.{SlotInfo}
use Rattle.slot.specs.declared.slot.SlotFields.{SlotFields}
use Rattle.pair.specs.Pair.{decide, winner_info}
use Rattle.judge.specs.Verdict.{by_index}
use Rattle.judge.specs.Judge.{first_verdicts, first_tally, row_rules, verdicts, judgement}
use Rattle.judge.specs.Part.{part_bytes}
use Rattle.judge.specs.Frames.{frames_error, judge_frames, frames_left}
use Rattle.judge.specs.Same.{filled, frames_of, mark}
use Rattle.judge.specs.declared.records.SlotRead.{SlotRead}
use Rattle.judge.specs.declared.records.PairRead.{PairRead}
use Rattle.meta.specs.Volume.{volume_bytes}
use Rattle.meta.specs.Page.{header_bytes as page_header_bytes}
use Rattle.cut.specs.Store.{Every, Volume, Page, Pair, accepts, clean_mark, slot_at, slot_read}
use Rattle.cut.specs.Cut.{Tear, Write, cut, left, with_bytes, with_slot, stands_whole, handed}
use Rattle.cut.proofs.StatementLaws.{page_handed}
use Rattle.cut_examples.specs.Stores.{volume_record, reopened_record, page_record, zeros_for, volume_pair, closed_volume, first_page, second_fields, second_page, later_page}
use Rattle.cut_examples.specs.Writes.{write_to, page_write, volume_write, opening_write, second_write, later_write}
use Rattle.cut_examples.proofs.Writes.{unmarked_with, closed_marked, summed_slot, summed_is, none_refused, second_sum, handed_is, volume_slot, opening_bytes, old_page, new_page, blank_bytes, marked_bytes, next_page, newer_slot, later_slot, volume_slot_is, opening_bytes_is, old_page_is, new_page_is, marked_bytes_is, next_page_is, newer_slot_is, later_slot_is, page_accepted, volume_accepted, clean_marks}
use Rattle.cut_examples.specs.Computed.{writable_store, Computed, blank_read, bad_magic, torn_header, torn_payload, valid_read}
use Rattle.cut_examples.specs.Cuts.{old_records, older_read, torn_page, new_read, PageCuts, torn_volume, marked_read, VolumeCuts, volume_read, torn_opening, reopened_read, OpeningCuts, damaged_volume, MagicCuts, OtherCuts}
use Rattle.cut_examples.proofs.SlotsRead.{PairRecord, more, none, read_once, read_once_is, framed_row, pair_record, computed_row}

-- ---- the slots that are not written, as they are read

abbrev pub newer_read : SlotRead
newer_read = valid_read 2 4 0xe83c_e718 0x588e_9174 24

abbrev pub second_read : SlotRead
second_read = valid_read 1 3 0x2c8c_2a3c 0 24

-- With their checksums as numbers.

abbrev pub second_slot : List ℕ
second_slot = summed_slot 0x2c8c_2a3c 0x3eb4_2e60 second_fields (page_record 1 0)

pub second_payload_sum : crc32c (page_record 1 0) ≡ 0x3eb4_2e60
unfolding page_header_bytes crc32c final_remainder remainder digest reversed
second_payload_sum = refl

pub second_slot_is : (encode second_fields (page_record 1 0) (zeros_for second_fields)).0 ≡ second_slot
second_slot_is = summed_is second_fields (page_record 1 0) 0x2c8c_2a3c 0x3eb4_2e60 none_refused.3 second_sum second_payload_sum

-- Each as it is read.
pub slots_read : (read_once volume_slot volume_pair.a.expect ≡ volume_read) × (read_once blank_bytes volume_pair.b.expect ≡ blank_read)
    × (read_once old_page first_page.a.expect ≡ older_read) × (read_once newer_slot first_page.b.expect ≡ newer_read)
    × (read_once second_slot second_page.a.expect ≡ second_read) × (read_once blank_bytes second_page.b.expect ≡ blank_read)
    × (read_once new_page later_page.a.expect ≡ new_read) × (read_once marked_bytes closed_volume.b.expect ≡ marked_read)
unfolding is_slot_length check passes_checksum is_malformed passes_payload payload_of header_sum header_bytes volume_bytes page_header_bytes le crc32c final_remainder remainder digest reversed
slots_read = (refl, refl, refl, refl, refl, refl, refl, refl)

-- After no byte the slot of the page is the old one, and after the last the new one.
page_ends : (read_once (cut 0 new_page old_page) first_page.a.expect ≡ older_read) × (read_once (cut 512 new_page old_page) first_page.a.expect ≡ new_read)
unfolding cut header_bytes page_header_bytes
page_ends = (slots_read.2, slots_read.6)

-- The pairs of them, with their records.
pub volume_pair_read : PairRecord volume_pair (record { a = volume_read; b = blank_read; operator = 0 }) (volume_record false)
unfolding payload_of header_bytes volume_bytes decide
volume_pair_read =
    rw volume_slot_is
    (pair_record volume_slot blank_bytes volume_pair.a.expect volume_pair.b.expect Volume (record { a = volume_read; b = blank_read; operator = 0 })
    (volume_record false) slots_read.0 slots_read.1 refl refl volume_accepted.0)

-- The closed store's pair 0 with the bytes s in its slot A, which are read as x.
pub closed_with : (s : List ℕ) (x : SlotRead) → read_once s closed_volume.a.expect ≡ x
    → {index : SlotIndex} {i : SlotInfo} → winner_info (decide x.status marked_read.status) ≡ Some (index, i)
    → {r : List ℕ} → payload_of i (by_index index s marked_bytes) ≡ r → accepts Volume r ≡ true
    → PairRecord (with_slot SlotIndex.A s closed_volume) (record { a = x; b = marked_read; operator = 0 }) r
closed_with s x read won {r} back accepted =
    rw marked_bytes_is
    (pair_record s marked_bytes closed_volume.a.expect closed_volume.b.expect Volume (record { a = x; b = marked_read; operator = 0 }) r read
    slots_read.7 won back accepted)

-- The first page with the bytes s in its slot A, which are read as x.
pub first_with : (s : List ℕ) (x : SlotRead) → read_once s first_page.a.expect ≡ x
    → {index : SlotIndex} {i : SlotInfo} → winner_info (decide x.status newer_read.status) ≡ Some (index, i)
    → {r : List ℕ} → payload_of i (by_index index s newer_slot) ≡ r → accepts (Page 0 41) r ≡ true
    → PairRecord (with_slot SlotIndex.A s first_page) (record { a = x; b = newer_read; operator = 0 }) r
first_with s x read won {r} back accepted =
    rw newer_slot_is
    (pair_record s newer_slot first_page.a.expect first_page.b.expect (Page 0 41) (record { a = x; b = newer_read; operator = 0 }) r read slots_read.3 won back accepted)

pub first_page_read : PairRecord first_page (record { a = older_read; b = newer_read; operator = 0 }) (page_record 0 2)
unfolding payload_of header_bytes page_header_bytes decide
first_page_read = rw old_page_is (first_with old_page older_read slots_read.2 refl refl page_accepted.1)

pub second_page_read : PairRecord second_page (record { a = second_read; b = blank_read; operator = 1 }) (page_record 1 0)
unfolding payload_of header_bytes page_header_bytes decide
second_page_read =
    rw second_slot_is
    (pair_record second_slot blank_bytes second_page.a.expect second_page.b.expect (Page 1 41) (record { a = second_read; b = blank_read; operator = 1 })
    (page_record 1 0) slots_read.4 slots_read.5 refl refl page_accepted.4)

-- ---- the written pairs

-- How the slot that w writes is read, and its pair.
pub record Written (w : Write) (slot : SlotRead) (x : PairRead) (r : List ℕ) : Type 0 where
  pub slot_is : slot_read (with_bytes (left w) (slot_at w.index w.pair)) ≡ slot
  pub pair_is : PairRecord (with_slot w.index (left w) w.pair) x r

-- Where pair 1 of three is written, the frames that are filled, and what is judged and read back.
abbrev page_row : PairRead → List ℕ
page_row x =
    frames_of
    (framed_row (record { a = volume_read; b = blank_read; operator = 0 } ∷ x ∷ record { a = second_read; b = blank_read; operator = 1 } ∷ []))

pub page_at : {p : Pair} {f : SlotFields} {payload : List ℕ} {tear : Tear} {slot : SlotRead} {x : PairRead} {r : List ℕ}
    → Written (write_to (volume_pair ∷ []) p (second_page ∷ []) f payload tear) slot x r
    → {heal : Option (ℕ × SlotIndex)} {verdict : List ℕ}
    → judge_frames (page_row x) 0 12 ≡ Ok (writable_store heal false)
    → frames_left (page_row x) 0 (replicate 12 0) ≡ verdict
    → Computed (write_to (volume_pair ∷ []) p (second_page ∷ []) f payload tear) slot heal false verdict (volume_record false ∷ r ∷ page_record 1 0 ∷ [])
page_at {p} {f} {payload} {tear} written =
    let w = write_to (volume_pair ∷ []) p (second_page ∷ []) f payload tear in
    computed_row w written.slot_is (more volume_pair_read (more written.pair_is (more second_page_read none)))
    (page_handed w volume_pair [] refl ∙ unmarked_with p)

-- The page's slot A after k bytes is read as x.
page_read : (k : ℕ) (x : SlotRead) → read_once (cut k new_page old_page) first_page.a.expect ≡ x
    → {index : SlotIndex} {i : SlotInfo} → winner_info (decide x.status newer_read.status) ≡ Some (index, i)
    → {r : List ℕ} → payload_of i (by_index index (cut k new_page old_page) newer_slot) ≡ r → accepts (Page 0 41) r ≡ true
    → Written (page_write k) x (record { a = x; b = newer_read; operator = 0 }) r
page_read k x read won {r} back accepted =
    record {
      slot_is = rw (new_page_is, old_page_is) (read_once_is (cut k new_page old_page) first_page.a.expect ∙ read);
      pair_is = rw (new_page_is, old_page_is) (first_with (cut k new_page old_page) x read won back accepted);
    }

-- Where pair 0 of three is written, the frames that are filled, and what is judged and read back, where the judge is handed the mark.
abbrev volume_row : PairRead → List ℕ
volume_row x =
    frames_of
    (framed_row (x ∷ record { a = older_read; b = newer_read; operator = 0 } ∷ record { a = second_read; b = blank_read; operator = 1 } ∷ []))

volume_at : {p : Pair} {f : SlotFields} {payload : List ℕ} {tear : Tear} {slot : SlotRead} {x : PairRead} {r : List ℕ}
    → Written (write_to [] p (first_page ∷ second_page ∷ []) f payload tear) slot x r
    → {shut : Bool} → handed (write_to [] p (first_page ∷ second_page ∷ []) f payload tear) ≡ shut
    → {heal : Option (ℕ × SlotIndex)} {clean : Bool} {verdict : List ℕ}
    → judge_frames (volume_row x) (mark shut) 12 ≡ Ok (writable_store heal clean)
    → frames_left (volume_row x) (mark shut) (replicate 12 0) ≡ verdict
    → Computed (write_to [] p (first_page ∷ second_page ∷ []) f payload tear) slot heal clean verdict (r ∷ page_record 0 2 ∷ page_record 1 0 ∷ [])
volume_at {p} {f} {payload} {tear} written mark_is =
    computed_row (write_to [] p (first_page ∷ second_page ∷ []) f payload tear) written.slot_is
    (more written.pair_is (more first_page_read (more second_page_read none))) mark_is

-- The volume record's slot B after k bytes is read as x.
marked_at : (k : ℕ) (x : SlotRead) → read_once (cut k marked_bytes blank_bytes) volume_pair.b.expect ≡ x
    → {index : SlotIndex} {i : SlotInfo} → winner_info (decide volume_read.status x.status) ≡ Some (index, i)
    → {r : List ℕ} → payload_of i (by_index index volume_slot (cut k marked_bytes blank_bytes)) ≡ r → accepts Volume r ≡ true
    → Written (volume_write k) x (record { a = volume_read; b = x; operator = 0 }) r
marked_at k x read won {r} back accepted =
    record {
      slot_is = rw marked_bytes_is (read_once_is (cut k marked_bytes blank_bytes) volume_pair.b.expect ∙ read);
      pair_is =
          rw (marked_bytes_is, volume_slot_is)
          (pair_record volume_slot (cut k marked_bytes blank_bytes) volume_pair.a.expect volume_pair.b.expect Volume
          (record { a = volume_read; b = x; operator = 0 }) r slots_read.0 read won back accepted);
    }

marked_handed : (k : ℕ) {shut : Bool}
    → cond (stands_whole (cut k marked_bytes blank_bytes) marked_bytes (volume_record true)) (clean_mark (volume_record true)) false ≡ shut
    → handed (volume_write k) ≡ shut
marked_handed k is = handed_is (volume_write k) refl refl marked_bytes_is (unmarked_with first_page) ∙ is

-- The closed store's slot A of the volume record after k bytes is read as x.
opening_at : (k : ℕ) (x : SlotRead) → read_once (cut k opening_bytes volume_slot) closed_volume.a.expect ≡ x
    → {index : SlotIndex} {i : SlotInfo} → winner_info (decide x.status marked_read.status) ≡ Some (index, i)
    → {r : List ℕ} → payload_of i (by_index index (cut k opening_bytes volume_slot) marked_bytes) ≡ r → accepts Volume r ≡ true
    → Written (opening_write k) x (record { a = x; b = marked_read; operator = 0 }) r
opening_at k x read won {r} back accepted =
    record {
      slot_is = rw (volume_slot_is, opening_bytes_is) (read_once_is (cut k opening_bytes volume_slot) closed_volume.a.expect ∙ read);
      pair_is = rw (volume_slot_is, opening_bytes_is) (closed_with (cut k opening_bytes volume_slot) x read won back accepted);
    }

opening_handed : (k : ℕ) {shut : Bool}
    → cond (stands_whole (cut k opening_bytes volume_slot) opening_bytes (reopened_record false)) (clean_mark (reopened_record false)) true ≡ shut
    → handed (opening_write k) ≡ shut
opening_handed k is = handed_is (opening_write k) refl volume_slot_is opening_bytes_is closed_marked ∙ is

-- The second page's slot B after 140 bytes.
abbrev torn_second : SlotRead
torn_second = torn_payload 2 4 0x1916_772d 0x2c8c_2a3c

torn_second_read : read_once (cut 140 next_page blank_bytes) second_page.b.expect ≡ torn_second
unfolding cut is_slot_length check passes_checksum is_malformed passes_payload payload_of header_sum header_bytes page_header_bytes le crc32c final_remainder remainder digest reversed
torn_second_read = refl

pub torn_pair_read : PairRecord (with_slot SlotIndex.B (left (second_write 140)) second_page) (record { a = second_read; b = torn_second; operator = 1 })
    (page_record 1 0)
unfolding payload_of header_bytes page_header_bytes decide
torn_pair_read =
    rw (next_page_is, second_slot_is)
    (pair_record second_slot (cut 140 next_page blank_bytes) second_page.a.expect second_page.b.expect (Page 1 41)
    (record { a = second_read; b = torn_second; operator = 1 }) (page_record 1 0) slots_read.4 torn_second_read refl refl page_accepted.4)

-- The first page's slot B after k bytes is read as x, and A of generation 3 is the winner.
later_read : (k : ℕ) (x : SlotRead) → read_once (cut k later_slot newer_slot) later_page.b.expect ≡ x
    → {i : SlotInfo} → winner_info (decide new_read.status x.status) ≡ Some (SlotIndex.A, i)
    → payload_of i new_page ≡ page_record 0 0x304
    → Written (later_write k) x (record { a = new_read; b = x; operator = 0 }) (page_record 0 0x304)
later_read k x read won back =
    record {
      slot_is = rw (newer_slot_is, later_slot_is) (read_once_is (cut k later_slot newer_slot) later_page.b.expect ∙ read);
      pair_is =
          rw (new_page_is, newer_slot_is, later_slot_is)
          (pair_record new_page (cut k later_slot newer_slot) later_page.a.expect later_page.b.expect (Page 0 41) (record { a = new_read; b = x; operator = 0 })
          (page_record 0 0x304) slots_read.6 read won back page_accepted.2);
    }

-- ---- the cuts

pub page_computed : PageCuts
unfolding cut is_slot_length check passes_checksum is_malformed passes_payload payload_of header_sum header_bytes page_header_bytes le crc32c final_remainder remainder digest reversed decide filled part_bytes judge_frames frames_left frames_error judgement verdicts row_rules first_verdicts first_tally
page_computed =
    record {
      page_0 = page_at (page_read 0 older_read page_ends.0 refl refl page_accepted.1) refl refl;
      page_8 = page_at (page_read 8 older_read refl refl refl page_accepted.1) refl refl;
      page_11 = page_at (page_read 11 (torn_header 0x581e_00d0) refl refl refl page_accepted.1) refl refl;
      page_64 = page_at (page_read 64 (torn_header 0xd61e_00d0) refl refl refl page_accepted.1) refl refl;
      page_127 = page_at (page_read 127 torn_page refl refl refl page_accepted.1) refl refl;
      page_128 = page_at (page_read 128 torn_page refl refl refl page_accepted.1) refl refl;
      page_133 = page_at (page_read 133 torn_page refl refl refl page_accepted.1) refl refl;
      page_134 = page_at (page_read 134 new_read refl refl refl page_accepted.2) refl refl;
      page_512 = page_at (page_read 512 new_read page_ends.1 refl refl page_accepted.2) refl refl;
    }

pub volume_computed : VolumeCuts
unfolding cut is_slot_length check passes_checksum is_malformed passes_payload payload_of header_sum header_bytes volume_bytes le crc32c final_remainder remainder digest reversed decide filled part_bytes judge_frames frames_left frames_error judgement verdicts row_rules first_verdicts first_tally stands_whole
volume_computed =
    record {
      volume_0 = volume_at (marked_at 0 blank_read refl refl refl volume_accepted.0) (marked_handed 0 refl) refl refl;
      volume_8 = volume_at (marked_at 8 (torn_header 0) refl refl refl volume_accepted.0) (marked_handed 8 refl) refl refl;
      volume_11 = volume_at (marked_at 11 (torn_header 0x000c_0bb0) refl refl refl volume_accepted.0) (marked_handed 11 refl) refl refl;
      volume_64 = volume_at (marked_at 64 (torn_header 0x880c_0bb0) refl refl refl volume_accepted.0) (marked_handed 64 refl) refl refl;
      volume_128 = volume_at (marked_at 128 torn_volume refl refl refl volume_accepted.0) (marked_handed 128 refl) refl refl;
      volume_191 = volume_at (marked_at 191 torn_volume refl refl refl volume_accepted.0) (marked_handed 191 refl) refl refl;
      volume_192 = volume_at (marked_at 192 marked_read refl refl refl volume_accepted.1) (marked_handed 192 clean_marks.1) refl refl;
    }

pub opening_computed : OpeningCuts
unfolding cut is_slot_length check passes_checksum is_malformed passes_payload payload_of header_sum header_bytes volume_bytes le crc32c final_remainder remainder digest reversed decide filled part_bytes judge_frames frames_left frames_error judgement verdicts row_rules first_verdicts first_tally stands_whole
opening_computed =
    record {
      opening_0 = volume_at (opening_at 0 volume_read refl refl refl volume_accepted.1) (opening_handed 0 refl) refl refl;
      opening_8 = volume_at (opening_at 8 volume_read refl refl refl volume_accepted.1) (opening_handed 8 refl) refl refl;
      opening_11 = volume_at (opening_at 11 (torn_header 0x1d72_d3ee) refl refl refl volume_accepted.1) (opening_handed 11 refl) refl refl;
      opening_64 = volume_at (opening_at 64 (torn_header 0x9172_d3ee) refl refl refl volume_accepted.1) (opening_handed 64 refl) refl refl;
      opening_128 = volume_at (opening_at 128 torn_opening refl refl refl volume_accepted.1) (opening_handed 128 refl) refl refl;
      opening_136 = volume_at (opening_at 136 torn_opening refl refl refl volume_accepted.1) (opening_handed 136 refl) refl refl;
      opening_137 = volume_at (opening_at 137 reopened_read refl refl refl volume_accepted.2) (opening_handed 137 clean_marks.2) refl refl;
      opening_192 = volume_at (opening_at 192 reopened_read refl refl refl volume_accepted.2) (opening_handed 192 clean_marks.2) refl refl;
    }

pub other_computed : OtherCuts
unfolding cut is_slot_length check passes_checksum is_malformed passes_payload payload_of header_sum header_bytes page_header_bytes le crc32c final_remainder remainder digest reversed decide filled part_bytes judge_frames frames_left frames_error judgement verdicts row_rules first_verdicts first_tally
other_computed =
    record {
      second_140 =
          computed_row (second_write 140) {clean_mark = false} (rw next_page_is (read_once_is (cut 140 next_page blank_bytes) second_page.b.expect ∙ torn_second_read))
          (more volume_pair_read (more first_page_read (more torn_pair_read none))) (page_handed (second_write 140) volume_pair (first_page ∷ []) refl ∙ unmarked_with first_page) refl refl;
      later_64 = page_at (later_read 64 (torn_header 0xe83c_e718) refl refl refl) refl refl;
      later_133 = page_at (later_read 133 (torn_payload 4 6 0xe83c_e718 0xd61e_00d0) refl refl refl) refl refl;
    }

-- ---- what the theorem leaves out

module _ (k : ℕ) (read : read_once (cut k marked_bytes blank_bytes) volume_pair.b.expect ≡ bad_magic)
    (mark_is : cond (stands_whole (cut k marked_bytes blank_bytes) marked_bytes (volume_record true)) (clean_mark (volume_record true)) false ≡ false) where
  magic_at : Computed (volume_write k) bad_magic None false damaged_volume old_records
  unfolding payload_of header_bytes volume_bytes le decide filled part_bytes judge_frames frames_left frames_error judgement verdicts row_rules first_verdicts first_tally
  magic_at = volume_at (marked_at k bad_magic read refl refl volume_accepted.0) (marked_handed k mark_is) refl refl

pub magic_computed : MagicCuts
unfolding cut is_slot_length check header_bytes volume_bytes le stands_whole
magic_computed =
    Every.more (magic_at 1 refl refl)
    (Every.more (magic_at 2 refl refl)
    (Every.more (magic_at 3 refl refl)
    (Every.more (magic_at 4 refl refl) (Every.more (magic_at 5 refl refl) (Every.more (magic_at 6 refl refl) Every.none)))))
