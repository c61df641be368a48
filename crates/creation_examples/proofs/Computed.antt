-- What specs/States.antt expects is computed from the definitions, without the theorem: the slots are read, and from that follow the frames, the
-- verdicts and the records.
use Rattle.std.proofs.Common.{◌≡◌, refl, ap, Bool, true, false, List, [], ◌∷◌, ℕ, replicate, Some, Ok}
use Rattle.codec.specs.Bytes.{le}
use Rattle.codec.specs.Crc32c.{crc32c, final_remainder, remainder, digest, reversed}
use Rattle.slot.specs.Payload.{payload as payload_of}
use Rattle.slot.specs.Read.{is_slot_length, header_sum, passes_checksum, is_malformed, check, passes_payload}
use Rattle.slot.specs.Write.{header_bytes}
use Rattle.slot.specs.declared.slot.SlotIndex.{SlotIndex}
use Rattle.slot.specs.declared.slot.SlotInfo.{SlotInfo}
use Rattle.pair.specs.Pair.{decide, winner_info}
use Rattle.judge.specs.Judge.{first_verdicts, first_tally, row_rules, verdicts, judgement}
use Rattle.judge.specs.Part.{part_bytes}
use Rattle.judge.specs.Frames.{frames_error, judge_frames, frames_left}
use Rattle.judge.specs.Same.{filled, frames_of, pairs_of}
use Rattle.judge.specs.declared.records.SlotRead.{SlotRead}
use Rattle.judge.specs.declared.verdict.Judgement.{Judgement}
use Rattle.meta.specs.Volume.{volume_bytes}
use Rattle.meta.specs.Page.{header_bytes as page_header_bytes}
use Rattle.cut.specs.Store.{Decoder, Volume, Page, Pair, accepts, framed}
use Rattle.cut.specs.Cut.{cut, after}
use Rattle.cut_examples.specs.Stores.{volume_record, page_record, fields, read_with}
use Rattle.cut_examples.specs.Computed.{AllRead, blank_read, bad_magic}
use Rattle.cut_examples.proofs.Writes.{volume_accepted, page_accepted, blank_bytes}
use Rattle.cut_examples.proofs.SlotsRead.{PairRecord, slot_with, read_once, framed_row, pair_record}
use Rattle.creation_examples.specs.Stores.{blank_pair, volume_fields, page_0_fields, volume_pair, page_0_pair, page_1_pair, made_store}
use Rattle.creation_examples.specs.Writes.{page_0_write, volume_write}
use Rattle.creation_examples.specs.States.{row, records, StateIs, volume_read, page_0_read, page_1_read, volume_header_torn, volume_payload_torn, page_0_header_torn, page_0_payload_torn, PageStates, VolumeStates}
use Rattle.creation_examples.proofs.Slots.{volume_slot, page_0_slot, page_1_slot, volume_slot_is, page_0_slot_is, page_1_slot_is, blank_once, slots_read, pair_read_as, blank_read_as, page_0_read_as, page_1_read_as, row_framed, blank_row, page_1_row, pages_row, made_row}

-- ---- from the row

state_by : {ps : List Pair} {volume page_0 page_1 : SlotRead} → framed ps ≡ framed_row (row volume page_0 page_1)
    → {answer : Bool → Judgement} {verdict : List ℕ}
    → judge_frames (frames_of (framed_row (row volume page_0 page_1))) 0 12 ≡ Ok (answer false)
    → judge_frames (frames_of (framed_row (row volume page_0 page_1))) 1 12 ≡ Ok (answer true)
    → frames_left (frames_of (framed_row (row volume page_0 page_1))) 0 (replicate 12 0) ≡ verdict
    → frames_left (frames_of (framed_row (row volume page_0 page_1))) 1 (replicate 12 0) ≡ verdict
    → StateIs ps volume page_0 page_1 answer verdict
state_by is judged marked written written_marked =
    record {
      read = ap pairs_of is;
      judged = elim [ false ↦ rw is judged | true ↦ rw is marked ];
      written = elim [ false ↦ rw is written | true ↦ rw is written_marked ];
    }

-- ---- the slots that are cut

page_cut : (k : ℕ) (x : SlotRead) → read_once (cut k page_0_slot blank_bytes) (read_with page_0_fields) ≡ x
    → framed (after (page_0_write k)) ≡ framed_row (row blank_read x page_1_read)
page_cut k x read =
    rw page_0_slot_is (row_framed (blank_read_as 0 Volume 0) (pair_read_as 1 (Page 0 41) 0 (cut k page_0_slot blank_bytes) x read) page_1_read_as)

volume_cut : (k : ℕ) (x : SlotRead) → read_once (cut k volume_slot blank_bytes) (read_with volume_fields) ≡ x
    → framed (after (volume_write k)) ≡ framed_row (row x page_0_read page_1_read)
volume_cut k x read =
    rw volume_slot_is (row_framed (pair_read_as 0 Volume 0 (cut k volume_slot blank_bytes) x read) page_0_read_as page_1_read_as)

pages_cut : (framed (after (page_0_write 3)) ≡ framed_row (row blank_read bad_magic page_1_read))
    × (framed (after (page_0_write 64)) ≡ framed_row (row blank_read page_0_header_torn page_1_read))
    × (framed (after (page_0_write 140)) ≡ framed_row (row blank_read page_0_payload_torn page_1_read))
unfolding cut is_slot_length check passes_checksum is_malformed passes_payload payload_of header_sum header_bytes page_header_bytes le crc32c final_remainder remainder digest reversed
pages_cut = (page_cut 3 _ refl, page_cut 64 _ refl, page_cut 140 _ refl)

cut_192 : read_once (cut 192 volume_slot blank_bytes) (read_with volume_fields) ≡ volume_read
unfolding cut is_slot_length check passes_checksum is_malformed passes_payload payload_of header_sum header_bytes volume_bytes le crc32c final_remainder remainder digest reversed
cut_192 = refl

volumes_cut : (framed (after (volume_write 3)) ≡ framed_row (row bad_magic page_0_read page_1_read))
    × (framed (after (volume_write 64)) ≡ framed_row (row volume_header_torn page_0_read page_1_read))
    × (framed (after (volume_write 191)) ≡ framed_row (row volume_payload_torn page_0_read page_1_read))
    × (framed (after (volume_write 192)) ≡ framed_row (row volume_read page_0_read page_1_read))
unfolding cut is_slot_length check passes_checksum is_malformed passes_payload payload_of header_sum header_bytes volume_bytes le crc32c final_remainder remainder digest reversed
volumes_cut = (volume_cut 3 _ refl, volume_cut 64 _ refl, volume_cut 191 _ refl, volume_cut 192 _ cut_192)

-- ---- the records

-- A pair whose slot A holds s, the winner, and whose slot B is Blank.
winner_back : (object : ℕ) (decoder : Decoder) (operator : ℕ) (s : List ℕ) (x : SlotRead) (r : List ℕ)
    → read_once s (read_with (fields 9 object SlotIndex.A 0 0 0)) ≡ x
    → {i : SlotInfo} → winner_info (decide x.status blank_read.status) ≡ Some (SlotIndex.A, i) → payload_of i s ≡ r → accepts decoder r ≡ true
    → PairRecord (record (blank_pair object decoder operator) { a = slot_with s (read_with (fields 9 object SlotIndex.A 0 0 0)) })
    (record { a = x; b = blank_read; operator = operator }) r
winner_back object decoder operator s x r read =
    let b = read_with (fields 9 object SlotIndex.B 0 0 0) in
    pair_record s blank_bytes (read_with (fields 9 object SlotIndex.A 0 0 0)) b decoder (record { a = x; b = blank_read; operator = operator }) r read
    (blank_once b refl)

page_0_back : PairRecord page_0_pair (record { a = page_0_read; b = blank_read; operator = 0 }) (page_record 0 1)
unfolding payload_of header_bytes page_header_bytes decide
page_0_back =
    rw page_0_slot_is (winner_back 1 (Page 0 41) 0 page_0_slot page_0_read (page_record 0 1) slots_read.1 refl refl page_accepted.0)

page_1_back : PairRecord page_1_pair (record { a = page_1_read; b = blank_read; operator = 1 }) (page_record 1 0)
unfolding payload_of header_bytes page_header_bytes decide
page_1_back =
    rw page_1_slot_is (winner_back 2 (Page 1 41) 1 page_1_slot page_1_read (page_record 1 0) slots_read.2 refl refl page_accepted.4)

-- With slot A of pair 0 as it is read where the volume record stands whole.
all_back : (s : List ℕ) → read_once s (read_with volume_fields) ≡ volume_read
    → {i : SlotInfo} → winner_info (decide volume_read.status blank_read.status) ≡ Some (SlotIndex.A, i) → payload_of i s ≡ volume_record false
    → AllRead (record volume_pair { a = slot_with s (read_with volume_fields) } ∷ page_0_pair ∷ page_1_pair ∷ []) records
all_back s read won back =
    let volume_back = winner_back 0 Volume 0 s volume_read (volume_record false) read won back volume_accepted.0 in
    AllRead.more volume_back.back volume_back.accepted
    (AllRead.more page_0_back.back page_0_back.accepted (AllRead.more page_1_back.back page_1_back.accepted AllRead.none))

whole_back : AllRead (after (volume_write 192)) records
unfolding cut payload_of header_bytes volume_bytes decide
whole_back = rw volume_slot_is (all_back (cut 192 volume_slot blank_bytes) cut_192 refl refl)

made_back : AllRead made_store records
unfolding payload_of header_bytes volume_bytes decide
made_back = rw volume_slot_is (all_back volume_slot slots_read.0 refl refl)

-- ---- the states

pub page_states : PageStates
unfolding le decide filled part_bytes judge_frames frames_left frames_error judgement verdicts row_rules first_verdicts first_tally
page_states =
    record {
      blank = state_by blank_row refl refl refl refl;
      page_1 = state_by page_1_row refl refl refl refl;
      page_0_3 = state_by pages_cut.0 refl refl refl refl;
      page_0_64 = state_by pages_cut.1 refl refl refl refl;
      page_0_140 = state_by pages_cut.2 refl refl refl refl;
      pages = state_by pages_row refl refl refl refl;
    }

pub volume_states : VolumeStates
unfolding le decide filled part_bytes judge_frames frames_left frames_error judgement verdicts row_rules first_verdicts first_tally
volume_states =
    record {
      volume_3 = state_by volumes_cut.0 refl refl refl refl;
      volume_64 = state_by volumes_cut.1 refl refl refl refl;
      volume_191 = state_by volumes_cut.2 refl refl refl refl;
      volume_192 = state_by volumes_cut.3 refl refl refl refl;
      back_192 = whole_back;
      made = state_by made_row refl refl refl refl;
      back = made_back;
    }
