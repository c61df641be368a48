-- A correct write to a sound store that is finished leaves a sound store: the written slot is Valid beside the winner before.
use Rattle.std.proofs.Common.{◌≡◌, refl, ap, ap₂, ◌∙◌, List, [], ◌∷◌, ◌++◌, ℕ, ◌<◌, true, arith}
use Rattle.slot.specs.Status.{other}
use Rattle.slot.specs.Payload.{payload as payload_of}
use Rattle.slot.specs.Laws.{info_of}
use Rattle.slot.specs.declared.slot.SlotIndex.{SlotIndex}
use Rattle.cut.specs.Store.{Slot, Pair, accepts, slot_at, status, Beside, SoundPair, IsPage, IsRow, Sound}
use Rattle.cut.specs.Cut.{Write, store, new, with_slot, next_number, CorrectWrite}
use Rattle.cut.proofs.EveryLaws.{every_split, every_join}
use Rattle.cut.proofs.PairLaws.{last_is}
use Rattle.cut.proofs.NumberLaws.{in_highest}
use Rattle.cut.proofs.StateLaws.{Leads, Resting, winner_number}
use Rattle.cut.proofs.NextLaws.{kept_slot, put_decoder, put_operator}
use Rattle.cut.proofs.RowLaws.{range_kept}
use Rattle.cut.proofs.WriteLaws.{BesideWinner, sound_beside}
use Rattle.cut.proofs.LeftLaws.{finished_wins}
use Rattle.plan.specs.Promise.{finished_pair, FinishedIsSound}

-- ---- one pair in the place of another

page_kept : (index : SlotIndex) (s : List ℕ) (p : Pair) → IsPage p → IsPage (with_slot index s p)
page_kept index s p page = record { index = page.index; most = page.most; decoder = put_decoder p s index ∙ page.decoder }

pub row_put : (before : List Pair) (p : Pair) (behind : List Pair) (index : SlotIndex) (s : List ℕ) → IsRow (before ++ p ∷ behind)
    → IsRow (before ++ with_slot index s p ∷ behind)
row_put [] p behind index s (IsRow.row volume pages range) =
    IsRow.row (put_decoder p s index ∙ volume) pages (range_kept true [] p (with_slot index s p) behind (put_operator p s index) ∙ range)
row_put (q ∷ before) p behind index s (IsRow.row volume pages range) =
    let page = every_split before p behind pages in
    IsRow.row volume (every_join page.0 (page_kept index s p page.1) page.2)
    (range_kept true (q ∷ before) p (with_slot index s p) behind (put_operator p s index) ∙ range)

-- ---- the written pair

module _ (w : Write) (sound : Sound (store w)) (correct : CorrectWrite w) where
  pair_sound : SoundPair w.pair
  pair_sound = (every_split w.before w.pair w.behind sound.pairs).1

  abbrev made : BesideWinner (next_number (store w) w.pair) w
  made = sound_beside w pair_sound correct

  abbrev q : Pair
  q = finished_pair w

  higher : correct.winner.meta_seq < next_number (store w) w.pair
  higher =
      let among = in_highest w.pair.operator w.before w.pair w.behind refl (other w.index) in
      let own = winner_number w.pair (other w.index) correct.winner made.leads in
      omega arith

  wins : Leads q w.index (info_of w.fields w.payload) × Resting q w.index (info_of w.fields w.payload)
      × (payload_of (info_of w.fields w.payload) (slot_at w.index q).bytes ≡ w.payload)
  wins = finished_wins w made higher

  written_sound : SoundPair q
  written_sound =
      let above = higher in
      record {
        slots = wins.0.slots;
        newer = w.index;
        info = info_of w.fields w.payload;
        valid = wins.0.valid;
        accepted = wins.0.accepted;
        beside =
            Beside.both correct.winner (ap status (kept_slot w.pair (new w) w.index) ∙ made.leads.valid) correct.written.generation_is
            (omega (arith, correct.written.number_is)) correct.written.prev_is
            (ap₂ (λ d (s : Slot). accepts d (payload_of correct.winner s.bytes)) (put_decoder w.pair (new w) w.index) (kept_slot w.pair (new w) w.index)
            ∙ made.leads.accepted);
      }

pub finished_is_sound : FinishedIsSound
unfolding written_sound
finished_is_sound w sound correct =
    let written = written_sound w sound correct in
    let all = every_split w.before w.pair w.behind sound.pairs in (
      record {
        row = row_put w.before w.pair w.behind w.index (new w) sound.row;
        pairs = every_join all.0 written all.2;
      },
      last_is (finished_pair w) written ∙ (wins w sound correct).2,
    )
