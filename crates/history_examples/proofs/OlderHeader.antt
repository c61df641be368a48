-- What specs/OlderHeader.antt says: how the slot is read after each step is computed first, and from that the judge's answer, the numbers and
-- that the steps are those of a history.
use Rattle.std.proofs.Common.{◌≡◌, refl, sym, ap, ◌∙◌, inl, inr, true, false, nat_eq, List, [], ◌∷◌, ℕ, lit≤, lit<, take, Ok}
use lib.Pointwise.{pointwise}
use Rattle.codec.specs.Bytes.{le}
use Rattle.codec.specs.Crc32c.{crc32c, final_remainder, remainder, digest, reversed}
use Rattle.slot.specs.Payload.{payload as payload_of}
use Rattle.slot.specs.Read.{is_slot_length, header_sum, passes_checksum, is_malformed, check}
use Rattle.slot.specs.Write.{header_bytes, header_crc, encode_check, encode}
use Rattle.slot.specs.Laws.{Fits}
use Rattle.slot.specs.declared.slot.SlotStatus.{SlotStatus}
use Rattle.slot.specs.declared.slot.SlotIndex.{SlotIndex}
use Rattle.pair.specs.Pair.{decide}
use Rattle.judge.specs.Judge.{first_verdicts, first_tally, row_rules, verdicts, judgement}
use Rattle.judge.specs.Part.{part_bytes}
use Rattle.judge.specs.Frames.{frames_error, judge_frames, frames_left}
use Rattle.judge.specs.Same.{Framed, filled}
use Rattle.meta.specs.Page.{header_bytes as page_header_bytes}
use Rattle.cut.specs.Store.{last_record}
use Rattle.cut.specs.Cut.{Ascending, with_slot, cut, new, old, left, header_passes}
use Rattle.cut.proofs.PairLaws.{last_is}
use Rattle.cut.proofs.CutLaws.{differ}
use Rattle.cut_examples.specs.Stores.{page_record, zeros_for, volume_pair, first_page, second_page, new_fields, first_store}
use Rattle.cut_examples.specs.Computed.{torn_header}
use Rattle.cut_examples.specs.Cuts.{older_read, new_read}
use Rattle.cut_examples.proofs.Writes.{both_written, first_sound, sound, newer_known, summed_slot, summed_is, page_bytes, page_fits, page_accepted, new_fits, newer_sums, new_sums, old_page, new_page, old_page_is, new_page_is}
use Rattle.cut_examples.proofs.SlotsRead.{PairRecord, read_once}
use Rattle.cut_examples.proofs.Computed.{newer_read, slots_read, first_page_read, first_with}
use Rattle.history.specs.History.{standing, same_header, under_after, valid_after, started, Allowed, HistoryAccident, HarmfulAccident, Reached}
use Rattle.history.proofs.Theorem.{harmful_is_accident}
use Rattle.history_examples.specs.States.{store_with, page_write}
use Rattle.history_examples.specs.OlderHeader.{at_first, new_put, torn, healing_fields, healing_put, healing_write, stood_again, written, OlderHeaderReached, SlotAsAtFirst, StandsByAccident, StandsWithoutHarm, OlderHeaderStates, OlderHeaderNumbers}
use Rattle.history_examples.proofs.Steps.{Fitting, page_in, numbers_by, state_by, free, healing, winner_is, no_accident}

-- ---- the slot of the write that heals

healing_sum : header_crc healing_fields (page_record 0 2) ≡ 0xb350_ad74
unfolding header_crc header_bytes page_header_bytes crc32c final_remainder remainder digest reversed
healing_sum = refl

healing_refusal : encode_check healing_fields (page_record 0 2) 512 ≡ Ok tt
unfolding encode_check page_header_bytes
healing_refusal = refl

abbrev healing_slot : List ℕ
healing_slot = summed_slot 0xb350_ad74 0xea7c_0394 healing_fields (page_record 0 2)

healing_slot_is : (encode healing_fields (page_record 0 2) (zeros_for healing_fields)).0 ≡ healing_slot
healing_slot_is = summed_is healing_fields (page_record 0 2) 0xb350_ad74 0xea7c_0394 healing_refusal healing_sum newer_sums.1

healing_fits : Fits healing_fields
healing_fits =
    record {
      volume = new_fits.volume;
      object = new_fits.object;
      generation = new_fits.generation;
      owner = lit< tt;
      offset = new_fits.offset;
      log2 = new_fits.log2;
      prev = new_fits.prev;
      format = new_fits.format;
      number = new_fits.number;
      compat = new_fits.compat;
    }

-- ---- slot A after each step

abbrev torn_slot : List ℕ
torn_slot = cut 9 new_page old_page

torn_read : read_once torn_slot first_page.a.expect ≡ torn_header 0x588e_91d0
unfolding cut is_slot_length check passes_checksum is_malformed header_sum header_bytes page_header_bytes le crc32c final_remainder remainder digest reversed
torn_read = refl

-- The bytes that the second cut leaves are the old ones.
again_is : cut 9 healing_slot torn_slot ≡ old_page
unfolding cut header_bytes page_header_bytes
again_is = refl

torn_left : left (page_write at_first (new_put (Ascending 9))) ≡ torn_slot
torn_left = rw (new_page_is, old_page_is)

again_left : left healing_write ≡ old_page
again_left = rw (new_page_is, old_page_is, healing_slot_is) again_is

torn_pair : PairRecord torn.pair (record { a = torn_header 0x588e_91d0; b = newer_read; operator = 0 }) (page_record 0 2)
unfolding payload_of header_bytes page_header_bytes decide
torn_pair = rw torn_left (first_with torn_slot (torn_header 0x588e_91d0) torn_read refl refl page_accepted.1)

again_pair : PairRecord stood_again.pair (record { a = older_read; b = newer_read; operator = 0 }) (page_record 0 2)
unfolding payload_of header_bytes page_header_bytes decide
again_pair = rw again_left (first_with old_page older_read slots_read.2 refl refl page_accepted.1)

written_pair : PairRecord written.pair (record { a = new_read; b = newer_read; operator = 0 }) (page_record 0 0x304)
unfolding payload_of header_bytes page_header_bytes decide
written_pair = rw new_page_is (first_with new_page new_read slots_read.6 refl refl page_accepted.2)

-- ---- what is computed

known_first : last_record first_page ≡ page_record 0 2
unfolding first_sound both_written
known_first = last_is first_page first_sound ∙ newer_known.record_is

pub states : OlderHeaderStates
unfolding le decide filled part_bytes judge_frames frames_left frames_error judgement verdicts row_rules first_verdicts first_tally
states =
    record {
      first = state_by (page_in at_first first_page_read) SlotIndex.A refl refl (ap (λ (r : List ℕ). r ∷ []) known_first);
      cut = state_by (page_in torn torn_pair) SlotIndex.A refl refl (ap (λ (r : List ℕ). page_record 0 0x304 ∷ r ∷ []) known_first);
      cut_again =
          state_by (page_in stood_again again_pair) SlotIndex.A refl refl
          (ap (λ (r : List ℕ). page_record 0 2 ∷ page_record 0 0x304 ∷ r ∷ []) known_first);
      finished = state_by (page_in written written_pair) SlotIndex.A refl refl refl;
    }

pub numbers : OlderHeaderNumbers
unfolding decide
numbers =
    record {
      first = numbers_by (page_in at_first first_page_read) refl refl;
      cut = numbers_by (page_in torn torn_pair) refl refl;
      cut_again = numbers_by (page_in stood_again again_pair) refl refl;
      finished = numbers_by (page_in written written_pair) refl refl;
    }

-- ---- the accident

pub as_at_first : SlotAsAtFirst
as_at_first = again_left ∙ sym old_page_is

-- The header before the cut fails, the one that stands again passes, and the new one is another.
headers : (header_passes torn_slot ≡ false) × (header_passes old_page ≡ true)
    × (pointwise nat_eq (take 128 old_page) (take 128 torn_slot) ≡ false) × (pointwise nat_eq (take 128 old_page) (take 128 healing_slot) ≡ false)
unfolding cut header_passes header_sum header_bytes page_header_bytes le crc32c final_remainder remainder digest reversed
headers = (refl, refl, refl, refl)

again_passes : header_passes (left healing_write) ≡ true
again_passes = rw again_left headers.1

not_before : same_header (left healing_write) (old healing_write) ≡ false
not_before = rw (again_left, torn_left) headers.2

not_new : same_header (left healing_write) (new healing_write) ≡ false
not_new = rw (again_left, healing_slot_is) headers.3

pub by_accident : StandsByAccident
by_accident winner =
    HistoryAccident.header
    (record {
      passes = again_passes;
      not_old = differ (take 128 (left healing_write)) (take 128 (old healing_write)) not_before;
      not_new = differ (take 128 (left healing_write)) (take 128 (new healing_write)) not_new;
    })

-- The slot's last Valid version is the one at first.
valid_is : torn.a.valid ≡ first_page.a.bytes
valid_is =
    ap (λ (st : SlotStatus). valid_after st (left (page_write at_first (new_put (Ascending 9)))) first_page.a.bytes)
    (ap (λ (f : Framed). f.pair.a.status) torn_pair.read)

under_is : under_after healing_write torn.a ≡ standing torn.a.valid
under_is = rw (not_new, not_before)

pub without_harm : StandsWithoutHarm
without_harm winner (HarmfulAccident.header other not_valid) = not_valid (ap (take 128) (as_at_first ∙ sym valid_is))
without_harm winner (HarmfulAccident.payload other) = other.other (ap standing (as_at_first ∙ sym valid_is) ∙ sym under_is)

-- ---- the steps

-- Whatever its slot A holds, the page fits the pair.
page_fitting : (s : List ℕ) → Fitting (with_slot SlotIndex.A s first_page) new_fields (page_record 0 0x304)
page_fitting s =
    record { fits = new_fits; format = refl; asked = refl; bytes = page_bytes 0 0x304; accepted = page_accepted.2; room = page_fits 0 0x304 }

healing_fitting : Fitting torn.pair healing_fields (page_record 0 2)
healing_fitting =
    record { fits = healing_fits; format = refl; asked = refl; bytes = page_bytes 0 2; accepted = page_accepted.1; room = page_fits 0 2 }

write_allowed : Allowed (page_write at_first (new_put (Ascending 9)))
unfolding decide judgement verdicts row_rules first_verdicts first_tally
write_allowed =
    free (page_in at_first first_page_read) (page_fitting at_first.pair.a.bytes) (Ascending 9) refl refl refl refl refl refl

heal_allowed : Allowed healing_write
unfolding decide judgement verdicts row_rules first_verdicts first_tally
heal_allowed =
    healing (page_in torn torn_pair) healing_fitting (Ascending 9) refl refl refl refl refl

next_allowed : Allowed (page_write stood_again (new_put (Ascending 512)))
unfolding decide judgement verdicts row_rules first_verdicts first_tally
next_allowed =
    free (page_in stood_again again_pair) (page_fitting stood_again.pair.a.bytes) (Ascending 512) refl refl refl refl refl refl

write_none : HistoryAccident (page_write at_first (new_put (Ascending 9))) at_first.a write_allowed.correct.winner → ⊥
unfolding decide
write_none =
    no_accident (page_write at_first (new_put (Ascending 9))) at_first.a
    (winner_is (page_in at_first first_page_read) (page_fitting at_first.pair.a.bytes) (Ascending 9) write_allowed refl)
    new_sums.0 refl (inl (rw torn_left headers.0))

pub reached : OlderHeaderReached
reached = record { first = first; cut = once; cut_again = twice; finished = last }
  where
    first : Reached HarmfulAccident (store_with at_first)
    first = Reached.start {ps = first_store} sound (lit≤ tt)

    once : Reached HarmfulAccident (store_with torn)
    once =
        Reached.cut (started volume_pair ∷ []) at_first (started second_page ∷ []) first (new_put (Ascending 9)) write_allowed
        (inr (lit≤ tt, lit≤ tt))
        (λ accident. write_none (harmful_is_accident (page_write at_first (new_put (Ascending 9))) at_first.a write_allowed.correct.winner accident))

    twice : Reached HarmfulAccident (store_with stood_again)
    twice =
        Reached.cut (started volume_pair ∷ []) torn (started second_page ∷ []) once healing_put heal_allowed (inr (lit≤ tt, lit≤ tt))
        (without_harm heal_allowed.correct.winner)

    last : Reached HarmfulAccident (store_with written)
    last = Reached.finish (started volume_pair ∷ []) stood_again (started second_page ∷ []) twice (new_put (Ascending 512)) next_allowed
