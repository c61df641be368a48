-- What specs/Healing.antt says: how the slot is read after each step is computed first, and from that the judge's answer, the numbers and
-- that the steps are those of a history.
use Rattle.std.proofs.Common.{◌≡◌, refl, ap, ◌∙◌, inl, inr, false, ◌==◌, List, [], ◌∷◌, ℕ, lit≤, take}
use Rattle.codec.specs.Bytes.{le, le32}
use Rattle.codec.specs.Crc32c.{crc32c, final_remainder, remainder, digest, reversed}
use Rattle.slot.specs.Payload.{payload as payload_of}
use Rattle.slot.specs.Read.{is_slot_length, header_sum, passes_checksum, is_malformed, check, passes_payload}
use Rattle.slot.specs.Write.{header_bytes}
use Rattle.slot.specs.declared.slot.SlotIndex.{SlotIndex}
use Rattle.pair.specs.Pair.{decide}
use Rattle.judge.specs.Judge.{first_verdicts, first_tally, row_rules, verdicts, judgement}
use Rattle.judge.specs.Part.{part_bytes}
use Rattle.judge.specs.Frames.{frames_error, judge_frames, frames_left}
use Rattle.judge.specs.Same.{filled}
use Rattle.judge.specs.declared.records.SlotRead.{SlotRead}
use Rattle.meta.specs.Entry.{entry_bytes}
use Rattle.meta.specs.Page.{header_bytes as page_header_bytes, page_bytes}
use Rattle.cut.specs.Store.{last_record}
use Rattle.cut.specs.Cut.{Ascending, Sectors, with_slot, cut, by_sector, header_passes}
use Rattle.cut.proofs.PairLaws.{last_is}
use Rattle.cut_examples.specs.Stores.{volume_pair, second_page, long_page, long_store}
use Rattle.cut_examples.specs.Writes.{long_fields, the_first, both}
use Rattle.cut_examples.specs.Computed.{torn_header, torn_payload, valid_read}
use Rattle.cut_examples.proofs.Writes.{both_written}
use Rattle.cut_examples.proofs.SlotsRead.{PairRecord, read_once}
use Rattle.cut_examples.proofs.LongWrites.{newer_record, new_record, record_bytes, accepted, header_sums, new_fits, newer_known, older_slot, new_slot, older_slot_is, new_slot_is, long_sound, long_store_sound, record_fits, newer_read, long_with}
use Rattle.history.specs.History.{standing, started, Allowed, HistoryAccident, Reached}
use Rattle.history_examples.specs.States.{store_with, page_write}
use Rattle.history_examples.specs.Healing.{long_put, at_first, torn, torn_again, healed, HealingReached, HealingStates, HealingNumbers}
use Rattle.history_examples.proofs.Steps.{Fitting, page_in, numbers_by, state_by, free, healing, winner_is, no_accident}

-- ---- slot A after each step

abbrev torn_slot : List ℕ
torn_slot = cut 64 new_slot older_slot

abbrev torn_again_slot : List ℕ
torn_again_slot = by_sector the_first 0 new_slot torn_slot

abbrev older_read : SlotRead
older_read = valid_read 1 2 0x3b80_d549 0 408

abbrev torn_read : SlotRead
torn_read = torn_header 0x4d45_7736

abbrev torn_again_read : SlotRead
torn_again_read = torn_payload 3 5 0x4d45_7736 0xd7d6_5030

abbrev healed_read : SlotRead
healed_read = valid_read 3 5 0x4d45_7736 0xd7d6_5030 408

slots_read : (read_once older_slot long_page.a.expect ≡ older_read) × (read_once torn_slot long_page.a.expect ≡ torn_read)
    × (read_once torn_again_slot long_page.a.expect ≡ torn_again_read) × (read_once new_slot long_page.a.expect ≡ healed_read)
unfolding cut by_sector is_slot_length check passes_checksum is_malformed passes_payload payload_of header_sum header_bytes page_bytes page_header_bytes entry_bytes le crc32c final_remainder remainder digest reversed
slots_read = (refl, refl, refl, refl)

first_pair : PairRecord at_first.pair (record { a = older_read; b = newer_read; operator = 0 }) newer_record
unfolding payload_of header_bytes page_bytes page_header_bytes entry_bytes decide
first_pair = rw older_slot_is (long_with older_slot older_read slots_read.0 refl refl accepted.1)

torn_pair : PairRecord torn.pair (record { a = torn_read; b = newer_read; operator = 0 }) newer_record
unfolding payload_of header_bytes page_bytes page_header_bytes entry_bytes decide
torn_pair = rw (new_slot_is, older_slot_is) (long_with torn_slot torn_read slots_read.1 refl refl accepted.1)

torn_again_pair : PairRecord torn_again.pair (record { a = torn_again_read; b = newer_read; operator = 0 }) newer_record
unfolding payload_of header_bytes page_bytes page_header_bytes entry_bytes decide
torn_again_pair = rw (new_slot_is, older_slot_is) (long_with torn_again_slot torn_again_read slots_read.2 refl refl accepted.1)

healed_pair : PairRecord healed.pair (record { a = healed_read; b = newer_read; operator = 0 }) new_record
unfolding payload_of header_bytes page_bytes page_header_bytes entry_bytes decide
healed_pair = rw new_slot_is (long_with new_slot healed_read slots_read.3 refl refl accepted.2)

-- ---- what is computed

known_first : last_record long_page ≡ newer_record
unfolding long_sound both_written
known_first = last_is long_page long_sound ∙ newer_known.record_is

pub states : HealingStates
unfolding le decide filled part_bytes judge_frames frames_left frames_error judgement verdicts row_rules first_verdicts first_tally
states =
    record {
      first = state_by (page_in at_first first_pair) SlotIndex.A refl refl (ap (λ (r : List ℕ). r ∷ []) known_first);
      cut = state_by (page_in torn torn_pair) SlotIndex.A refl refl (ap (λ (r : List ℕ). new_record ∷ r ∷ []) known_first);
      cut_again =
          state_by (page_in torn_again torn_again_pair) SlotIndex.A refl refl (ap (λ (r : List ℕ). new_record ∷ new_record ∷ r ∷ []) known_first);
      finished = state_by (page_in healed healed_pair) SlotIndex.A refl refl refl;
    }

pub numbers : HealingNumbers
unfolding decide
numbers =
    record {
      first = numbers_by (page_in at_first first_pair) refl refl;
      cut = numbers_by (page_in torn torn_pair) refl refl;
      cut_again = numbers_by (page_in torn_again torn_again_pair) refl refl;
      finished = numbers_by (page_in healed healed_pair) refl refl;
    }

-- ---- the steps

-- Whatever its slot A holds, the write fits the pair.
long_fitting : (s : List ℕ) → Fitting (with_slot SlotIndex.A s long_page) long_fields new_record
long_fitting s =
    record { fits = new_fits; format = refl; asked = refl; bytes = record_bytes.2; accepted = accepted.2; room = record_fits }

write_allowed : Allowed (page_write at_first (long_put (Ascending 64)))
unfolding decide judgement verdicts row_rules first_verdicts first_tally
write_allowed =
    free (page_in at_first first_pair) (long_fitting at_first.pair.a.bytes) (Ascending 64) refl refl refl refl refl refl

heal_allowed : Allowed (page_write torn (long_put (Sectors the_first)))
unfolding decide judgement verdicts row_rules first_verdicts first_tally
heal_allowed =
    healing (page_in torn torn_pair) (long_fitting torn.pair.a.bytes) (Sectors the_first) refl refl refl refl refl

again_allowed : Allowed (page_write torn_again (long_put (Sectors both)))
unfolding decide judgement verdicts row_rules first_verdicts first_tally
again_allowed =
    healing (page_in torn_again torn_again_pair) (long_fitting torn_again.pair.a.bytes) (Sectors both) refl refl refl refl refl

-- After the first cut the header fails,
torn_fails : header_passes torn_slot ≡ false
unfolding cut header_passes header_sum header_bytes page_bytes page_header_bytes entry_bytes le crc32c final_remainder remainder digest reversed
torn_fails = refl

write_none : HistoryAccident (page_write at_first (long_put (Ascending 64))) at_first.a write_allowed.correct.winner → ⊥
unfolding decide
write_none =
    no_accident (page_write at_first (long_put (Ascending 64))) at_first.a
    (winner_is (page_in at_first first_pair) (long_fitting at_first.pair.a.bytes) (Ascending 64) write_allowed refl)
    header_sums.2 refl (inl (rw (new_slot_is, older_slot_is) torn_fails))

-- and after the second the payload, under the new header.
torn_under_new : (take 128 torn_again_slot ≡ take 128 new_slot) × ((crc32c (standing torn_again_slot) == le32 torn_again_slot 28) ≡ false)
unfolding cut by_sector payload_of header_bytes page_bytes page_header_bytes entry_bytes le crc32c final_remainder remainder digest reversed
torn_under_new = (refl, refl)

heal_none : HistoryAccident (page_write torn (long_put (Sectors the_first))) torn.a heal_allowed.correct.winner → ⊥
unfolding decide
heal_none =
    no_accident (page_write torn (long_put (Sectors the_first))) torn.a
    (winner_is (page_in torn torn_pair) (long_fitting torn.pair.a.bytes) (Sectors the_first) heal_allowed refl)
    header_sums.2 refl (inr (rw (new_slot_is, older_slot_is) torn_under_new))

pub reached : HealingReached
reached = record { first = first; cut = once; cut_again = twice; finished = last }
  where
    first : Reached HistoryAccident (store_with at_first)
    first = Reached.start {ps = long_store} long_store_sound (lit≤ tt)

    once : Reached HistoryAccident (store_with torn)
    once =
        Reached.cut (started volume_pair ∷ []) at_first (started second_page ∷ []) first (long_put (Ascending 64)) write_allowed
        (inr (lit≤ tt, lit≤ tt)) write_none

    twice : Reached HistoryAccident (store_with torn_again)
    twice = Reached.cut (started volume_pair ∷ []) torn (started second_page ∷ []) once (long_put (Sectors the_first)) heal_allowed tt heal_none

    last : Reached HistoryAccident (store_with healed)
    last = Reached.finish (started volume_pair ∷ []) torn_again (started second_page ∷ []) twice (long_put (Sectors both)) again_allowed
