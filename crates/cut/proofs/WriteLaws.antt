-- A correct write to the slot beside a winner that stands: `encode` refuses nothing, its fields fit and ask for what the slot is read
-- with, and what is written has their header and the payload.
use Rattle.std.proofs.Common.{◌≡◌, refl, sym, ap, subst, ◌∙◌, false, ◌==◌, ℕ, ◌+◌, ◌^◌, ◌≤◌, ◌<◌, arith, length, take}
use Rattle.std.specs.List.{list_all}
use Rattle.slot.specs.Status.{other}
use Rattle.slot.specs.Payload.{payload as payload_of}
use Rattle.slot.specs.Header.{header}
use Rattle.slot.specs.Read.{is_slot_length}
use Rattle.slot.specs.Write.{header_bytes, written_header}
use Rattle.slot.specs.declared.header.Header.{Header}
use Rattle.slot.specs.declared.slot.SlotIndex.{SlotIndex}
use Rattle.slot.specs.declared.slot.SlotInfo.{SlotInfo}
use Rattle.slot.specs.declared.slot.SlotFields.{SlotFields}
use Rattle.cut.specs.Store.{Slot, Pair, slot_at, last_record, SoundPair}
use Rattle.cut.specs.Cut.{Write, store, old, new, next_number, CorrectWith, CorrectWrite}
use Rattle.cut.specs.Laws.{Encoded}
use Rattle.cut.proofs.ByteLaws.{le32_lt}
use Rattle.cut.proofs.StatusLaws.{false_true, passed_is, valid_is}
use Rattle.cut.proofs.PairLaws.{last_is}
use Rattle.cut.proofs.StateLaws.{Short, beside, Leads, Fitting, Resting, under_header, under_check, sound_leads, sound_rests, sound_won}
use Rattle.cut.proofs.WrittenLaws.{WrittenInto, old_size, payload_small, fields_proper, expect_is, not_refused, new_header, sizes_same}
use Rattle.cut.proofs.NextLaws.{length_short, back_slot}

-- A correct write with the number n, and the winner that it is made beside.
pub record BesideWinner (n : ℕ) (w : Write) : Type 0 where
  pub correct : CorrectWith n w
  pub leads : Leads w.pair (other w.index) correct.winner
  pub some : 1 ≤ n

module _ {n : ℕ} (w : Write) (made : BesideWinner n w) where
  abbrev f : SlotFields
  f = w.fields

  abbrev i : SlotInfo
  i = made.correct.winner

  abbrev p : Pair
  p = w.pair

  pub old_is : beside (other w.index) w.pair ≡ old w
  old_is = ap (λ (s : Slot). s.bytes) (back_slot p w.index)

  -- The winner's checksum is a number of its width.
  own_fits : i.header_crc32c < 2 ^ 32
  own_fits =
      let winner_slot = slot_at (other w.index) p in
      rw (valid_is winner_slot.bytes winner_slot.expect i made.leads.valid).info_is
      (le32_lt winner_slot.bytes (made.leads.slots (other w.index)).typed.bytes 8)

  pub writes : WrittenInto (made.correct.winner.generation + 1) made.correct.winner.header_crc32c n w
  writes =
      record {
        written = made.correct.written;
        slot = made.leads.slots w.index;
        length_ok = ap (λ (s : Slot). is_slot_length (length s.bytes) s.expect.log2_slot_size) (sym (back_slot p w.index)) ∙ made.leads.length_ok;
        some_generation = omega arith;
        prev_fits = own_fits;
        some_number = made.some;
      }

  -- ---- what it does to its slot

  pub fitting : Fitting w.pair (other w.index) made.correct.winner w.fields w.payload n
  fitting =
      record {
        proper = fields_proper w writes;
        asked_is = expect_is w writes ∙ ap (λ (s : Slot). s.expect) (sym (back_slot p w.index));
        small = payload_small w writes;
        fits = let sizes = ap length old_is ∙ old_size w writes in omega (arith, sizes, made.correct.written.fits);
        generation = made.correct.written.generation_is;
        prev = made.correct.written.prev_is;
        number = made.correct.written.number_is;
        accepted = made.correct.written.accepted;
      }

  pub new_beside : length (new w) ≡ length (beside (other w.index) w.pair)
  new_beside = sym (sizes_same w writes) ∙ ap length (sym old_is)

  pub new_short : Short (new w)
  new_short =
      length_short (new w)
      ((passed_is (new w) _ (under_check p (other w.index) i made.leads fitting (new w) new_beside (new_header w writes))).length_is
      (made.leads.slots (other (other w.index))).format)

  not_blank : list_all (λ b. b == 0) (written_header f w.payload) ≡ false
  unfolding written_header header_bytes
  not_blank = refl

  -- The header of a slot that rests is not the new one.
  pub header_differs : Resting w.pair (other w.index) made.correct.winner → take 128 (old w) ≡ take 128 (new w) → ⊥
  header_differs resting same_header = go resting
    where
      head : take 128 (beside (other w.index) p) ≡ written_header f w.payload
      head = ap (take 128) old_is ∙ same_header ∙ new_header w writes

      go : Resting p (other w.index) i → ⊥
      go (Resting.zeroed is_a first zeros) = false_true {A = ⊥} not_blank (ap (list_all (λ b. b == 0)) (sym head) ∙ zeros)
      go (Resting.past older) =
          let written : (header (beside (other w.index) p)).generation ≡ f.generation =
          ap (λ (h : Header). h.generation) (under_header p (other w.index) i made.leads fitting (beside (other w.index) p) refl head) in
          omega (arith, written, older.generation, made.correct.written.generation_is)
      go (Resting.lapsed stands fails short same_sum) =
          false_true {A = ⊥} fails
          (passed_is (beside (other w.index) p) _ (under_check p (other w.index) i made.leads fitting (beside (other w.index) p) refl head)).sum_is

-- ---- to a sound pair

module _ (w : Write) (sound : SoundPair w.pair) (correct : CorrectWrite w) where
  pub both_won : ◌≡◌ {A = SlotIndex × SlotInfo} (sound.newer, sound.info) (other w.index, correct.winner)
  both_won = let both = sym (sound_won w.pair sound) ∙ correct.won in cc

  abbrev pub sound_beside : BesideWinner (next_number (store w) w.pair) w
  sound_beside =
      record {
        correct = correct;
        leads = subst (λ (won : SlotIndex × SlotInfo). Leads w.pair won.0 won.1) both_won (sound_leads w.pair sound);
        some = omega arith;
      }

  pub sound_resting : Resting w.pair (other w.index) correct.winner
  sound_resting = subst (λ (won : SlotIndex × SlotInfo). Resting w.pair won.0 won.1) both_won (sound_rests w.pair sound)

  pub last_before : last_record w.pair ≡ payload_of correct.winner (slot_at (other w.index) w.pair).bytes
  last_before =
      last_is w.pair sound ∙ ap (λ (won : SlotIndex × SlotInfo). payload_of won.1 (slot_at won.0 w.pair).bytes) both_won

pub encoded : Encoded
encoded w sound correct = not_refused w (writes w (sound_beside w sound correct))
