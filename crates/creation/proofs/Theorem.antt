-- The theorem on the creation of a store, and what it asks for.
use Rattle.std.proofs.Common.{◌≡◌, refl, ap, subst, ◌∙◌, true, false, ◌==◌, List, [], ◌∷◌, ◌++◌, ℕ, ◌≤◌, arith, eq-eqb, le-leb, length}
use Rattle.std.specs.List.{list_all}
use Rattle.slot.specs.Read.{is_blank, is_slot_length, validate}
use Rattle.slot.specs.declared.slot.SlotIndex.{SlotIndex}
use Rattle.judge.specs.Judge.{most_pairs}
use Rattle.cut.specs.Store.{Every, Pair, slot_at, status, clean_mark, last_record, store_mark, SoundPair, IsRow, Sound}
use Rattle.cut.specs.Cut.{Write, store, size, old, new, left, with_slot, after, Anywhere, whole, Accident, is_empty}
use Rattle.cut.proofs.EveryLaws.{every_split, every_join, same_length}
use Rattle.cut.proofs.StatusLaws.{false_true}
use Rattle.cut.proofs.FrameLaws.{row_judged, judged_row}
use Rattle.cut.proofs.NextLaws.{put_slots}
use Rattle.cut.proofs.Theorem.{row_range}
use Rattle.plan.specs.Promise.{NumberedPair, finished_pair, finished}
use Rattle.plan.proofs.CorrectLaws.{all_typed}
use Rattle.plan.proofs.FinishLaws.{row_put}
use Rattle.history.specs.History.{Reached}
use Rattle.history.proofs.Theorem.{start_mark}
use Rattle.creation.specs.Creation.{NewPair, FirstWrite, Creating, NeitherValid, NeitherAnswered, NoStore, CreationTheorem}
use Rattle.creation.specs.Laws.{ZerosAreBlank, AnyRowBegins, AnyPageIsWritten, VolumeIsWrittenLast, AnyFirstWrite, AnyCreationCut, Begins, MadeBegins, WholeBegins}
use Rattle.creation.proofs.PairLaws.{finished_sound, whole_sound, torn_not_valid, left_bytes}
use Rattle.creation.proofs.RowLaws.{NeverValid, neither_judged, blank_never, Stage, row_of, stage_of, stage_put, all_sound, stage_numbered}

-- ---- without a store

pub neither_answered : NeitherAnswered
neither_answered p ps few range numbered never =
    record {
      answer = λ clean out room. judged_row (p ∷ ps) (omega arith) few range clean (all_typed numbered) out room;
      row_answer = λ clean. row_judged (p ∷ ps) (omega arith) few range clean;
      judged = neither_judged p ps never;
    }

new_neither : (p : Pair) → NewPair p → NeitherValid p
new_neither p new index = blank_never (status (slot_at index p)) (new.blank index)

half_made : (p : Pair) (ps : List Pair) → Creating (p ∷ ps) → NewPair p → length (p ∷ ps) ≤ most_pairs → NoStore (p ∷ ps)
half_made p ps creating new few =
    neither_answered p ps few (row_range (row_of creating)) (stage_numbered (stage_of creating)) (new_neither p new)

-- A first write that is cut, in the row.
module _ (w : Write) (creating : Creating (store w)) (first : FirstWrite w) where
  cut_row : IsRow (after w)
  cut_row = row_put w.before w.pair w.behind w.index (left w) (row_of creating)

  cut_numbered : Every NumberedPair (after w)
  cut_numbered =
      let all = every_split w.before w.pair w.behind (stage_numbered (stage_of creating)) in
      every_join all.0 (put_slots w.pair (left w) w.index first.new_pair.slots (left_bytes w first)) all.2

  cut_few : length (store w) ≤ most_pairs → length (after w) ≤ most_pairs
  cut_few few = subst (λ (n : ℕ). n ≤ most_pairs) (same_length w.before w.pair (with_slot w.index (left w) w.pair) w.behind) few

-- With one slot of a new pair written, the other one is Blank.
neither : (p : Pair) (s : List ℕ) (o : SlotIndex) → NewPair p → NeverValid (status (slot_at o (with_slot o s p))) → NeitherValid (with_slot o s p)
neither p s SlotIndex.A new never SlotIndex.A = never
neither p s SlotIndex.A new never SlotIndex.B = blank_never (status p.b) (new.blank SlotIndex.B)
neither p s SlotIndex.B new never SlotIndex.A = blank_never (status p.a) (new.blank SlotIndex.A)
neither p s SlotIndex.B new never SlotIndex.B = never

not_both : (p : Pair) → NewPair p → SoundPair p → ⊥
not_both p new sound = new_neither p new sound.newer sound.info sound.valid

-- Of a page: pair 0 was not written.
page_none : (before : List Pair) (p q : Pair) (behind : List Pair) → is_empty before ≡ false → Stage (before ++ p ∷ behind) → NewPair p
    → IsRow (before ++ q ∷ behind) → Every NumberedPair (before ++ q ∷ behind)
    → length (before ++ q ∷ behind) ≤ most_pairs → NoStore (before ++ q ∷ behind)
page_none [] p q behind page stage new is_row numbered few = absurd cc
page_none (u ∷ before) p q behind page (Stage.unmade first rest) new is_row numbered few =
    neither_answered u (before ++ q ∷ behind) few (row_range is_row) numbered (new_neither u first)
page_none (u ∷ before) p q behind page (Stage.made (Every.more first rest)) new is_row numbered few =
    absurd (not_both p new (every_split before p behind rest).1)

volume_none : (before : List Pair) (q : Pair) (behind : List Pair) → is_empty before ≡ true → NeitherValid q
    → IsRow (before ++ q ∷ behind) → Every NumberedPair (before ++ q ∷ behind)
    → length (before ++ q ∷ behind) ≤ most_pairs → NoStore (before ++ q ∷ behind)
volume_none [] q behind volume never is_row numbered few = neither_answered q behind few (row_range is_row) numbered never
volume_none (u ∷ before) q behind volume never is_row numbered few = absurd cc

volume_sound : (before : List Pair) (q : Pair) (behind : List Pair) → is_empty before ≡ true → SoundPair q → Stage (before ++ q ∷ behind)
    → Every SoundPair (before ++ q ∷ behind)
volume_sound [] q behind volume sound stage = all_sound q behind sound stage
volume_sound (u ∷ before) q behind volume sound stage = absurd cc

volume_mark : (before : List Pair) (q : Pair) (behind : List Pair) (r : List ℕ) → is_empty before ≡ true → last_record q ≡ r
    → store_mark (before ++ q ∷ behind) ≡ clean_mark r
volume_mark [] q behind r volume last = ap clean_mark last
volume_mark (u ∷ before) q behind r volume last = absurd cc

-- ---- the theorem

module _ (w : Write) (creating : Creating (store w)) (first : FirstWrite w) where
  page_cut : length (store w) ≤ most_pairs → is_empty w.before ≡ false → NoStore (after w)
  page_cut few page =
      page_none w.before w.pair (with_slot w.index (left w) w.pair) w.behind page (stage_of creating) first.new_pair (cut_row w creating first)
      (cut_numbered w creating first) (cut_few w creating first few)

  volume_cut : length (store w) ≤ most_pairs → is_empty w.before ≡ true → Anywhere w.tear (size w)
      → (Accident (left w) (old w) (new w) w.payload → ⊥) → whole w ≡ false → NoStore (after w)
  volume_cut few volume any none torn =
      volume_none w.before (with_slot w.index (left w) w.pair) w.behind volume
      (neither w.pair (left w) w.index first.new_pair (torn_not_valid w first any none torn)) (cut_row w creating first)
      (cut_numbered w creating first) (cut_few w creating first few)

  volume_whole : is_empty w.before ≡ true → Anywhere w.tear (size w) → whole w ≡ true → Sound (after w)
  volume_whole volume any stands =
      let sound = (whole_sound w first any stands).0 in
      record {
        row = cut_row w creating first;
        pairs =
            volume_sound w.before (with_slot w.index (left w) w.pair) w.behind volume sound
            (stage_put w.before w.pair w.behind (stage_of creating) (with_slot w.index (left w) w.pair) sound first.volume_last);
      }

  made : is_empty w.before ≡ true → Sound (finished w)
  made volume =
      let written = Creating.write w creating first in
      record {
        row = row_of written;
        pairs = volume_sound w.before (finished_pair w) w.behind volume (finished_sound w first).0 (stage_of written);
      }

pub creation_theorem : CreationTheorem
creation_theorem =
    record {
      half_made = half_made;
      page_cut = λ w creating first few page any. page_cut w creating first few page;
      volume_cut = volume_cut;
      volume_whole = volume_whole;
      made = made;
    }

-- ---- the history that begins

begins : (ps : List Pair) (r : List ℕ) → Sound ps → length ps ≤ most_pairs → store_mark ps ≡ clean_mark r → Begins ps r
begins ps r sound few mark_is = record { reached = Reached.start sound few; read = start_mark ps sound ∙ mark_is }

pub made_begins : MadeBegins
made_begins w creating first volume few =
    begins (finished w) w.payload (made w creating first volume)
    (subst (λ (n : ℕ). n ≤ most_pairs) (same_length w.before w.pair (finished_pair w) w.behind) few)
    (volume_mark w.before (finished_pair w) w.behind w.payload volume (finished_sound w first).1)

pub whole_begins : WholeBegins
whole_begins w creating first volume any stands few =
    begins (after w) w.payload (volume_whole w creating first volume any stands) (cut_few w creating first few)
    (volume_mark w.before (with_slot w.index (left w) w.pair) w.behind w.payload volume (whole_sound w first any stands).1)

-- ---- what is asked for

pub zeros_are_blank : ZerosAreBlank
unfolding validate is_slot_length
zeros_are_blank s low high size zeros =
    let blank : is_blank s.bytes ≡ true = ap (list_all (λ b. b == 0)) zeros in
    simp (le-leb _ _ low, le-leb _ _ high, eq-eqb _ _ size, blank)

pub any_row_begins : AnyRowBegins
any_row_begins ps is_row new = Creating.begin is_row new

pub any_page_is_written : AnyPageIsWritten
any_page_is_written w creating new slot_a written page =
    Creating.write w creating (record { new_pair = new; slot_a = slot_a; written = written; volume_last = λ volume. false_true page volume })

pub volume_is_written_last : VolumeIsWrittenLast
volume_is_written_last w creating new slot_a written volume last =
    Creating.write w creating (record { new_pair = new; slot_a = slot_a; written = written; volume_last = λ first. last })

any_volume_last : (before behind : List Pair) → (before ≡ [] → Every (λ (p : Pair). NewPair p → ⊥) behind) → is_empty before ≡ true
    → Every (λ (p : Pair). NewPair p → ⊥) behind
any_volume_last [] behind last volume = last refl
any_volume_last (q ∷ before) behind last volume = absurd cc

pub any_first_write : AnyFirstWrite
any_first_write w new slot_a written last =
    record { new_pair = new; slot_a = slot_a; written = written; volume_last = any_volume_last w.before w.behind last }

pub any_creation_cut : AnyCreationCut
any_creation_cut =
    record {
      half_made = λ p ps creating new few. creation_theorem.half_made p ps creating new few;
      page_cut = λ w p ps page creating first few any. creation_theorem.page_cut w creating first few (ap is_empty page) any;
      volume_cut = λ w volume creating first few any none torn. creation_theorem.volume_cut w creating first few (ap is_empty volume) any none torn;
      volume_whole = λ w volume creating first any stands. creation_theorem.volume_whole w creating first (ap is_empty volume) any stands;
      made = λ w volume creating first. creation_theorem.made w creating first (ap is_empty volume);
      neither = λ p ps few range numbered never. neither_answered p ps few range numbered never;
    }
