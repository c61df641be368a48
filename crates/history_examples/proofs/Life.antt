-- What specs/Life.antt says: how the written slot is read after each step is computed first, and from that the judge's answer, the numbers,
-- and which writes are those of a history.
use Rattle.std.proofs.Common.{◌≡◌, refl, ap, inl, inr, Bool, true, false, ◌==◌, List, [], ◌∷◌, ℕ, lit≤, lit<, take, Some, None, Ok}
use Rattle.codec.specs.Bytes.{AllBytes, le, le32}
use Rattle.codec.specs.Crc32c.{crc32c, final_remainder, remainder, digest, reversed}
use Rattle.slot.specs.Payload.{payload as payload_of}
use Rattle.slot.specs.Read.{is_slot_length, header_sum, passes_checksum, is_malformed, check, passes_payload}
use Rattle.slot.specs.Write.{header_bytes, header_crc, encode_check, encode}
use Rattle.slot.specs.Laws.{Fits}
use Rattle.slot.specs.declared.slot.SlotIndex.{SlotIndex}
use Rattle.slot.specs.declared.slot.SlotInfo.{SlotInfo}
use Rattle.pair.specs.Pair.{decide, winner_info}
use Rattle.judge.specs.Judge.{first_verdicts, first_tally, row_rules, verdicts, judgement}
use Rattle.judge.specs.Part.{part_bytes}
use Rattle.judge.specs.Frames.{frames_error, judge_frames, frames_left}
use Rattle.judge.specs.Same.{filled}
use Rattle.judge.specs.declared.records.SlotRead.{SlotRead}
use Rattle.judge.specs.declared.records.PairRead.{PairRead}
use Rattle.meta.specs.Block.{block_size, entries_per_page}
use Rattle.meta.specs.Base.{base_at, check_base}
use Rattle.meta.specs.Volume.{tail_at, check_tail, check_volume, decode_volume, volume_bytes as volume_record_bytes}
use Rattle.meta.specs.Page.{header_bytes as page_header_bytes}
use Rattle.cut.specs.Store.{Volume, Page, accepts, clean_mark}
use Rattle.cut.specs.Cut.{Ascending, cut, header_passes}
use Rattle.cut.proofs.ByteLaws.{bytes_tested}
use Rattle.cut_examples.specs.Stores.{volume_by, volume_record, reopened_record, page_record, zeros_for, volume_pair, first_page, second_page, first_store}
use Rattle.cut_examples.specs.Writes.{opening_fields, next_fields}
use Rattle.cut_examples.specs.Computed.{blank_read, torn_header, torn_payload, valid_read}
use Rattle.cut_examples.specs.Cuts.{older_read, volume_read, marked_read}
use Rattle.cut_examples.proofs.Writes.{fields_fit, sound, volume_bytes, volume_accepted, clean_marks, volume_room, volume_last, second_last, page_bytes, page_accepted, page_fits, marked_fits, marked_sums, opening_fits, opening_sums, next_fits, next_sums, summed_slot, summed_is, volume_slot, volume_slot_is, opening_bytes, opening_bytes_is, blank_bytes, next_page, next_page_is}
use Rattle.cut_examples.proofs.SlotsRead.{PairRecord, more, none, read_once, pair_record}
use Rattle.cut_examples.proofs.Computed.{newer_read, second_read, second_slot, second_slot_is, second_payload_sum, slots_read, volume_pair_read, closed_with, first_page_read, second_page_read, torn_pair_read}
use Rattle.history.specs.History.{Tracked, pairs, standing, started, named, Allowed, HistoryAccident, Put, write_to, Reached}
use Rattle.history_examples.specs.Life.{store_of, volume_write, page_write, volume_at_first, page_at_first, closing_put, closed, opening_put, torn_opening, healing_put, healed, reopening_fields, reopening_put, opened, page_put, torn_page, page_healing_put, healed_page, last_fields, last_put, closed_again, third_fields, third_put, VolumeAlone, LifeReached, LifeStates, LifeNumbers, LifeClosed}
use Rattle.history_examples.proofs.Steps.{Fitting, ReadAs, mark_by, numbers_by, state_by, named_is, free, healing, winner_is, page_refused, no_accident}

-- ---- the slots

header_sums : (header_crc opening_fields (volume_record true) ≡ 0x8674_efd5) × (header_crc reopening_fields (reopened_record false) ≡ 0x6f25_7368)
    × (header_crc next_fields (page_record 1 0) ≡ 0x142d_17bf) × (header_crc last_fields (reopened_record true) ≡ 0x0430_18cf)
    × (crc32c (reopened_record true) ≡ 0x058e_2db0)
unfolding header_crc header_bytes volume_record_bytes page_header_bytes crc32c final_remainder remainder digest reversed
header_sums = (refl, refl, refl, refl, refl)

none_refused : (encode_check opening_fields (volume_record true) 512 ≡ Ok tt) × (encode_check reopening_fields (reopened_record false) 512 ≡ Ok tt)
    × (encode_check next_fields (page_record 1 0) 512 ≡ Ok tt) × (encode_check last_fields (reopened_record true) 512 ≡ Ok tt)
unfolding encode_check volume_record_bytes page_header_bytes
none_refused = (refl, refl, refl, refl)

-- With their checksums as numbers.

abbrev healed_slot : List ℕ
healed_slot = summed_slot 0x8674_efd5 0xa2bd_3d49 opening_fields (volume_record true)

abbrev opened_slot : List ℕ
opened_slot = summed_slot 0x6f25_7368 0xced8_5615 reopening_fields (reopened_record false)

abbrev healed_page_slot : List ℕ
healed_page_slot = summed_slot 0x142d_17bf 0x3eb4_2e60 next_fields (page_record 1 0)

abbrev last_slot : List ℕ
last_slot = summed_slot 0x0430_18cf 0x058e_2db0 last_fields (reopened_record true)

healed_slot_is : (encode opening_fields (volume_record true) (zeros_for opening_fields)).0 ≡ healed_slot
healed_slot_is = summed_is opening_fields (volume_record true) 0x8674_efd5 0xa2bd_3d49 none_refused.0 header_sums.0 marked_sums.1

opened_slot_is : (encode reopening_fields (reopened_record false) (zeros_for reopening_fields)).0 ≡ opened_slot
opened_slot_is = summed_is reopening_fields (reopened_record false) 0x6f25_7368 0xced8_5615 none_refused.1 header_sums.1 opening_sums.1

healed_page_slot_is : (encode next_fields (page_record 1 0) (zeros_for next_fields)).0 ≡ healed_page_slot
healed_page_slot_is = summed_is next_fields (page_record 1 0) 0x142d_17bf 0x3eb4_2e60 none_refused.2 header_sums.2 second_payload_sum

last_slot_is : (encode last_fields (reopened_record true) (zeros_for last_fields)).0 ≡ last_slot
last_slot_is = summed_is last_fields (reopened_record true) 0x0430_18cf 0x058e_2db0 none_refused.3 header_sums.3 header_sums.4

-- ---- as they are read

abbrev torn_slot : List ℕ
torn_slot = cut 64 opening_bytes volume_slot

abbrev torn_page_slot : List ℕ
torn_page_slot = cut 140 next_page blank_bytes

abbrev healed_slot_read : SlotRead
healed_slot_read = valid_read 3 6 0x8674_efd5 0x880c_0bb0 64

abbrev opened_slot_read : SlotRead
opened_slot_read = valid_read 4 7 0x6f25_7368 0x8674_efd5 64

slots_written : (read_once torn_slot volume_pair.a.expect ≡ torn_header 0x9172_d3ee) × (read_once healed_slot volume_pair.a.expect ≡ healed_slot_read)
    × (read_once opened_slot volume_pair.b.expect ≡ opened_slot_read)
    × (read_once healed_page_slot second_page.b.expect ≡ valid_read 2 4 0x142d_17bf 0x2c8c_2a3c 24)
    × (read_once last_slot volume_pair.a.expect ≡ valid_read 5 8 0x0430_18cf 0x6f25_7368 64)
unfolding cut is_slot_length check passes_checksum is_malformed passes_payload payload_of header_sum header_bytes volume_record_bytes page_header_bytes le crc32c final_remainder remainder digest reversed
slots_written = (refl, refl, refl, refl, refl)

-- ---- the pairs

abbrev first_read : PairRead
first_read = record { a = volume_read; b = blank_read; operator = 0 }

abbrev closed_read : PairRead
closed_read = record { a = volume_read; b = marked_read; operator = 0 }

abbrev torn_read : PairRead
torn_read = record { a = torn_header 0x9172_d3ee; b = marked_read; operator = 0 }

abbrev healed_read : PairRead
healed_read = record { a = healed_slot_read; b = marked_read; operator = 0 }

abbrev opened_read : PairRead
opened_read = record { a = healed_slot_read; b = opened_slot_read; operator = 0 }

abbrev last_read : PairRead
last_read = record { a = valid_read 5 8 0x0430_18cf 0x6f25_7368 64; b = opened_slot_read; operator = 0 }

abbrev page_read : PairRead
page_read = record { a = second_read; b = blank_read; operator = 1 }

abbrev torn_page_read : PairRead
torn_page_read = record { a = second_read; b = torn_payload 2 4 0x1916_772d 0x2c8c_2a3c; operator = 1 }

abbrev healed_page_read : PairRead
healed_page_read = record { a = second_read; b = valid_read 2 4 0x142d_17bf 0x2c8c_2a3c 24; operator = 1 }

closed_pair : PairRecord closed.pair closed_read (volume_record true)
unfolding payload_of header_bytes volume_record_bytes decide
closed_pair = rw volume_slot_is (closed_with volume_slot volume_read slots_read.0 refl refl volume_accepted.1)

torn_pair : PairRecord torn_opening.pair torn_read (volume_record true)
unfolding payload_of header_bytes volume_record_bytes decide
torn_pair = rw (opening_bytes_is, volume_slot_is) (closed_with torn_slot (torn_header 0x9172_d3ee) slots_written.0 refl refl volume_accepted.1)

healed_pair : PairRecord healed.pair healed_read (volume_record true)
unfolding payload_of header_bytes volume_record_bytes decide
healed_pair = rw healed_slot_is (closed_with healed_slot healed_slot_read slots_written.1 refl refl volume_accepted.1)

opened_pair : PairRecord opened.pair opened_read (reopened_record false)
unfolding payload_of header_bytes volume_record_bytes decide
opened_pair =
    rw (healed_slot_is, opened_slot_is)
    (pair_record healed_slot opened_slot volume_pair.a.expect volume_pair.b.expect Volume opened_read (reopened_record false) slots_written.1
    slots_written.2 refl refl volume_accepted.2)

last_pair : PairRecord closed_again.pair last_read (reopened_record true)
unfolding payload_of header_bytes volume_record_bytes decide
last_pair =
    rw (last_slot_is, opened_slot_is)
    (pair_record last_slot opened_slot volume_pair.a.expect volume_pair.b.expect Volume last_read (reopened_record true) slots_written.4
    slots_written.2 refl refl volume_accepted.3)

healed_page_pair : PairRecord healed_page.pair healed_page_read (page_record 1 0)
unfolding payload_of header_bytes page_header_bytes decide
healed_page_pair =
    rw (healed_page_slot_is, second_slot_is)
    (pair_record second_slot healed_page_slot second_page.a.expect second_page.b.expect (Page 1 41) healed_page_read (page_record 1 0) slots_read.4
    slots_written.3 refl refl page_accepted.4)

-- ---- the states

-- Pairs 0 and 2 are read as x and y, their records are r and s, and this mark is read. A write to pair 0,
abbrev VolumeAs : (v p : Tracked) → (x y : PairRead) → (r s : List ℕ) → Bool → Type 0
VolumeAs v p x y r s set =
    ReadAs [] v (started first_page ∷ p ∷ []) x (x ∷ record { a = older_read; b = newer_read; operator = 0 } ∷ y ∷ [])
    (r ∷ page_record 0 2 ∷ s ∷ []) set

-- and one to pair 2.
abbrev PageAs : (v p : Tracked) → (x y : PairRead) → (r s : List ℕ) → Bool → Type 0
PageAs v p x y r s set =
    ReadAs (v ∷ started first_page ∷ []) p [] y (x ∷ record { a = older_read; b = newer_read; operator = 0 } ∷ y ∷ [])
    (r ∷ page_record 0 2 ∷ s ∷ []) set

volume_as : {v p : Tracked} {x y : PairRead} {r s : List ℕ} {index : SlotIndex} {i : SlotInfo} {set : Bool}
    → PairRecord v.pair x r → PairRecord p.pair y s
    → winner_info (decide x.a.status x.b.status) ≡ Some (index, i) → clean_mark r ≡ set
    → VolumeAs v p x y r s set
volume_as {v} {p} volume page won mark_is =
    record {
      row = more volume (more first_page_read (more page none));
      pair = volume.read;
      mark_is = mark_by (first_page ∷ p.pair ∷ []) volume won mark_is;
    }

page_as : {v p : Tracked} {x y : PairRead} {r s : List ℕ} {set : Bool} → PairRecord p.pair y s → VolumeAs v p x y r s set → PageAs v p x y r s set
page_as page volume = record { row = volume.row; pair = page.read; mark_is = volume.mark_is }

first_as : VolumeAs volume_at_first page_at_first first_read page_read (volume_record false) (page_record 1 0) false
unfolding decide
first_as = volume_as volume_pair_read second_page_read refl clean_marks.0

closed_as : VolumeAs closed page_at_first closed_read page_read (volume_record true) (page_record 1 0) true
unfolding decide
closed_as = volume_as closed_pair second_page_read refl clean_marks.1

torn_as : VolumeAs torn_opening page_at_first torn_read page_read (volume_record true) (page_record 1 0) true
unfolding decide
torn_as = volume_as torn_pair second_page_read refl clean_marks.1

healed_as : VolumeAs healed page_at_first healed_read page_read (volume_record true) (page_record 1 0) true
unfolding decide
healed_as = volume_as healed_pair second_page_read refl clean_marks.1

opened_as : VolumeAs opened page_at_first opened_read page_read (reopened_record false) (page_record 1 0) false
unfolding decide
opened_as = volume_as opened_pair second_page_read refl clean_marks.2

torn_page_as : PageAs opened torn_page opened_read torn_page_read (reopened_record false) (page_record 1 0) false
unfolding decide
torn_page_as = page_as torn_pair_read (volume_as opened_pair torn_pair_read refl clean_marks.2)

healed_page_as : VolumeAs opened healed_page opened_read healed_page_read (reopened_record false) (page_record 1 0) false
unfolding decide
healed_page_as = volume_as opened_pair healed_page_pair refl clean_marks.2

last_as : VolumeAs closed_again healed_page last_read healed_page_read (reopened_record true) (page_record 1 0) true
unfolding decide
last_as = volume_as last_pair healed_page_pair refl clean_marks.3

pub states : LifeStates
unfolding le decide filled part_bytes judge_frames frames_left frames_error judgement verdicts row_rules first_verdicts first_tally
states =
    record {
      first = state_by first_as SlotIndex.A refl refl (ap (λ (r : List ℕ). r ∷ []) volume_last);
      closing = state_by closed_as SlotIndex.B refl refl refl;
      cut = state_by torn_as SlotIndex.A refl refl refl;
      healing = state_by healed_as SlotIndex.A refl refl refl;
      opening = state_by opened_as SlotIndex.B refl refl refl;
      page_cut = state_by torn_page_as SlotIndex.B refl refl (ap (λ (r : List ℕ). page_record 1 1 ∷ r ∷ []) second_last);
      page_healing = state_by (page_as healed_page_pair healed_page_as) SlotIndex.B refl refl refl;
      closing_again = state_by last_as SlotIndex.A refl refl refl;
    }

pub numbers : LifeNumbers
unfolding decide
numbers =
    record {
      first = numbers_by first_as refl refl;
      closing = numbers_by closed_as refl refl;
      cut = numbers_by torn_as refl refl;
      healing = numbers_by healed_as refl refl;
      opening = numbers_by opened_as refl refl;
      page_cut = numbers_by torn_page_as refl refl;
      page_healing = numbers_by (page_as healed_page_pair healed_page_as) refl refl;
      closing_again = numbers_by last_as refl refl;
    }

-- ---- the writes

reopening_fits : Fits reopening_fields
reopening_fits = fields_fit 9 0 SlotIndex.B 4 0x8674_efd5 7 (lit< tt) (lit< tt) (lit< tt) (lit< tt) (lit< tt) (lit< tt)

last_fits : Fits last_fields
last_fits = fields_fit 9 0 SlotIndex.A 5 0x6f25_7368 8 (lit< tt) (lit< tt) (lit< tt) (lit< tt) (lit< tt) (lit< tt)

third_fits : Fits third_fields
third_fits = fields_fit 9 0 SlotIndex.B 6 0x0430_18cf 9 (lit< tt) (lit< tt) (lit< tt) (lit< tt) (lit< tt) (lit< tt)

third_record : AllBytes (volume_by 3 false) × (accepts Volume (volume_by 3 false) ≡ true)
unfolding volume_record_bytes decode_volume base_at tail_at check_volume check_base check_tail entries_per_page block_size le
third_record = (bytes_tested (volume_by 3 false) refl, refl)

closing_allowed : Allowed (volume_write volume_at_first page_at_first closing_put)
unfolding decide judgement verdicts row_rules first_verdicts first_tally
closing_allowed =
    free first_as
    (record { fits = marked_fits; format = refl; asked = refl; bytes = volume_bytes.1; accepted = volume_accepted.1; room = volume_room 1 true })
    (Ascending 512) refl refl refl refl refl refl

opening_fitting : Fitting closed.pair opening_fields (reopened_record false)
opening_fitting =
    record { fits = opening_fits; format = refl; asked = refl; bytes = volume_bytes.2; accepted = volume_accepted.2; room = volume_room 2 false }

opening_allowed : Allowed (volume_write closed page_at_first opening_put)
unfolding decide judgement verdicts row_rules first_verdicts first_tally
opening_allowed = free closed_as opening_fitting (Ascending 64) refl refl refl refl refl refl

healing_allowed : Allowed (volume_write torn_opening page_at_first healing_put)
unfolding decide judgement verdicts row_rules first_verdicts first_tally
healing_allowed =
    healing torn_as
    (record { fits = opening_fits; format = refl; asked = refl; bytes = volume_bytes.1; accepted = volume_accepted.1; room = volume_room 1 true })
    (Ascending 512) refl refl refl refl refl

reopening_allowed : Allowed (volume_write healed page_at_first reopening_put)
unfolding decide judgement verdicts row_rules first_verdicts first_tally
reopening_allowed =
    free healed_as
    (record { fits = reopening_fits; format = refl; asked = refl; bytes = volume_bytes.2; accepted = volume_accepted.2; room = volume_room 2 false })
    (Ascending 512) refl refl refl refl refl refl

page_fitting : Fitting page_at_first.pair next_fields (page_record 1 1)
page_fitting =
    record { fits = next_fits; format = refl; asked = refl; bytes = page_bytes 1 1; accepted = page_accepted.5; room = page_fits 1 1 }

page_allowed : Allowed (page_write opened page_at_first page_put)
unfolding decide judgement verdicts row_rules first_verdicts first_tally
page_allowed = free (page_as second_page_read opened_as) page_fitting (Ascending 140) refl refl refl refl refl refl

page_healing_allowed : Allowed (page_write opened torn_page page_healing_put)
unfolding decide judgement verdicts row_rules first_verdicts first_tally
page_healing_allowed =
    healing torn_page_as
    (record { fits = next_fits; format = refl; asked = refl; bytes = page_bytes 1 0; accepted = page_accepted.4; room = page_fits 1 0 })
    (Ascending 512) refl refl refl refl refl

last_allowed : Allowed (volume_write opened healed_page last_put)
unfolding decide judgement verdicts row_rules first_verdicts first_tally
last_allowed =
    free healed_page_as
    (record { fits = last_fits; format = refl; asked = refl; bytes = volume_bytes.3; accepted = volume_accepted.3; room = volume_room 2 true })
    (Ascending 512) refl refl refl refl refl refl

third_allowed : Allowed (volume_write closed_again healed_page third_put)
unfolding decide judgement verdicts row_rules first_verdicts first_tally
third_allowed =
    free last_as
    (record { fits = third_fits; format = refl; asked = refl; bytes = third_record.0; accepted = third_record.1; room = volume_room 3 false })
    (Ascending 512) refl refl refl refl refl refl

-- ---- no accident

-- After the cut of the opening the header fails,
torn_fails : header_passes torn_slot ≡ false
unfolding cut header_passes header_sum header_bytes volume_record_bytes le crc32c final_remainder remainder digest reversed
torn_fails = refl

opening_none : HistoryAccident (volume_write closed page_at_first opening_put) closed.a opening_allowed.correct.winner → ⊥
unfolding decide
opening_none =
    no_accident (volume_write closed page_at_first opening_put) closed.a
    (winner_is closed_as opening_fitting (Ascending 64) opening_allowed refl)
    opening_sums.0 refl (inl (rw (opening_bytes_is, volume_slot_is) torn_fails))

-- and after that of the page the payload, under the new header.
torn_under_new : (take 128 torn_page_slot ≡ take 128 next_page) × ((crc32c (standing torn_page_slot) == le32 torn_page_slot 28) ≡ false)
unfolding cut payload_of header_bytes page_header_bytes le crc32c final_remainder remainder digest reversed
torn_under_new = (refl, refl)

page_none : HistoryAccident (page_write opened page_at_first page_put) page_at_first.b page_allowed.correct.winner → ⊥
unfolding decide
page_none =
    no_accident (page_write opened page_at_first page_put) page_at_first.b
    (winner_is (page_as second_page_read opened_as) page_fitting (Ascending 140) page_allowed refl)
    next_sums.0 refl (inr (rw next_page_is torn_under_new))

pub reached : LifeReached
reached =
    record {
      first = at_first;
      closing = once_closed;
      cut = once_cut;
      healing = once_healed;
      opening = once_opened;
      page_cut = page_once_cut;
      page_healing = page_once_healed;
      closing_again = Reached.finish [] opened (started first_page ∷ healed_page ∷ []) page_once_healed last_put last_allowed;
    }
  where
    at_first : Reached HistoryAccident (store_of volume_at_first page_at_first)
    at_first = Reached.start {ps = first_store} sound (lit≤ tt)

    once_closed : Reached HistoryAccident (store_of closed page_at_first)
    once_closed = Reached.finish [] volume_at_first (started first_page ∷ page_at_first ∷ []) at_first closing_put closing_allowed

    once_cut : Reached HistoryAccident (store_of torn_opening page_at_first)
    once_cut =
        Reached.cut [] closed (started first_page ∷ page_at_first ∷ []) once_closed opening_put opening_allowed (inr (lit≤ tt, lit≤ tt)) opening_none

    once_healed : Reached HistoryAccident (store_of healed page_at_first)
    once_healed = Reached.finish [] torn_opening (started first_page ∷ page_at_first ∷ []) once_cut healing_put healing_allowed

    once_opened : Reached HistoryAccident (store_of opened page_at_first)
    once_opened = Reached.finish [] healed (started first_page ∷ page_at_first ∷ []) once_healed reopening_put reopening_allowed

    page_once_cut : Reached HistoryAccident (store_of opened torn_page)
    page_once_cut =
        Reached.cut (opened ∷ started first_page ∷ []) page_at_first [] once_opened page_put page_allowed (inr (lit≤ tt, lit≤ tt)) page_none

    page_once_healed : Reached HistoryAccident (store_of opened healed_page)
    page_once_healed = Reached.finish (opened ∷ started first_page ∷ []) torn_page [] page_once_cut page_healing_put page_healing_allowed

-- ---- while it is closed

alone : (v p : Tracked) {x y : PairRead} {r s : List ℕ} (here : VolumeAs v p x y r s true) (q : Put)
    → named (pairs (store_of v p)) ≡ None → Allowed (volume_write v p q) → VolumeAlone v p q
alone v p here q unnamed allowed =
    record {
      none_named = unnamed;
      no_first_page = λ other. page_refused (write_to (v ∷ []) (started first_page) (p ∷ []) other) refl here.mark_is unnamed;
      no_second_page = λ other. page_refused (page_write v p other) refl here.mark_is unnamed;
      volume = allowed;
    }

pub while_closed : LifeClosed
unfolding decide judgement verdicts row_rules first_verdicts first_tally
while_closed =
    record {
      closing = alone closed page_at_first closed_as opening_put (named_is closed_as) opening_allowed;
      healing = alone healed page_at_first healed_as reopening_put (named_is healed_as) reopening_allowed;
      closing_again = alone closed_again healed_page last_as third_put (named_is last_as) third_allowed;
    }
