-- How a store comes to be (docs/FORMAT.md, "The creation of a store"): from slots that are Blank each pair is given its first write, pages in
-- any order and the volume record last. Until that record stands whole the judge answers that there is no store that may be written and names
-- no slot for healing, under either mark, whatever of the write that is under way has arrived. Then the store is sound.
--
-- Stores, writes and cuts are those of the cut theorem.
use Rattle.std.specs.Prelude.{◌≡◌, Bool, true, false, List, ◌∷◌, ℕ, ◌*◌, ◌≤◌, length, None, Ok}
use Rattle.slot.specs.declared.slot.SlotIndex.{SlotIndex}
use Rattle.slot.specs.declared.slot.SlotInfo.{SlotInfo}
use Rattle.slot.specs.declared.slot.SlotStatus.{SlotStatus}
use Rattle.judge.specs.Operators.{operators_in_range}
use Rattle.judge.specs.Judge.{judgement, most_pairs}
use Rattle.judge.specs.Frames.{verdict_width, judge_frames}
use Rattle.judge.specs.Records.{judge_records}
use Rattle.judge.specs.Same.{mark}
use Rattle.cut.specs.Store.{Every, Pair, slot_at, status, reads, shown, frames, SoundSlot, IsRow, Sound}
use Rattle.cut.specs.Cut.{Write, store, size, old, new, left, after, Anywhere, next_number, Written, whole, Accident, is_empty}
use Rattle.plan.specs.Promise.{NumberedPair, finished}

-- ---- the writes

-- A pair that was not written yet: both slots are Blank, and are read as numbered in format 2.
pub record NewPair (p : Pair) : Type 0 where
  pub slots : (index : SlotIndex) → SoundSlot (slot_at index p)
  pub blank : (index : SlotIndex) → status (slot_at index p) ≡ SlotStatus.Blank

-- A pair's first write: to slot A, of generation 1, with previous checksum 0 and the number one above the highest of its operator. That of
-- pair 0 comes when every other pair was written.
pub record FirstWrite (w : Write) : Type 0 where
  pub new_pair : NewPair w.pair
  pub slot_a : w.index ≡ SlotIndex.A
  pub written : Written 1 0 (next_number (store w) w.pair) w
  pub volume_last : is_empty w.before ≡ true → Every (λ (p : Pair). NewPair p → ⊥) w.behind

-- What first writes lead to, each finished.
pub data Creating : List Pair → Type 0 where
  begin : {ps : List Pair} → IsRow ps → Every NewPair ps → Creating ps
  write : (w : Write) → Creating (store w) → FirstWrite w → Creating (finished w)

-- ---- what is concluded

-- Under either mark the judgement is that it may not be written and that no slot is to be healed.
pub record JudgedNoStore (ps : List Pair) : Type 0 where
  pub unwritable : (clean : Bool) → (judgement (shown ps) clean).writable ≡ false
  pub heal : (clean : Bool) → (judgement (shown ps) clean).heal ≡ None

-- The judge answers so, over frames and over the row of pairs.
pub record NoStore (ps : List Pair) : Type 0 where
  pub answer : (clean : Bool) (out : List ℕ) → length out ≡ length ps * verdict_width
      → judge_frames (frames ps) (mark clean) (length out) ≡ Ok (judgement (shown ps) clean)
  pub row_answer : (clean : Bool) → judge_records (reads ps) clean (length ps) ≡ Ok (judgement (shown ps) clean)
  pub judged : JudgedNoStore ps

-- Neither slot of the pair is Valid.
abbrev pub NeitherValid : Pair → Type 0
NeitherValid p = (index : SlotIndex) (i : SlotInfo) → status (slot_at index p) ≡ SlotStatus.Valid i → ⊥

-- So it is where neither slot of pair 0 is, whatever the other pairs hold: the judgement of any row,
abbrev pub NeitherJudged : Type 0
NeitherJudged = (p : Pair) (ps : List Pair) → NeitherValid p → JudgedNoStore (p ∷ ps)

-- and the answer on one of which the judge refuses nothing.
abbrev pub NeitherAnswered : Type 0
NeitherAnswered =
    (p : Pair) (ps : List Pair) → length (p ∷ ps) ≤ most_pairs → operators_in_range true (shown (p ∷ ps)) ≡ true → Every NumberedPair (p ∷ ps)
    → NeitherValid p → NoStore (p ∷ ps)

pub record CreationTheorem : Type 0 where
  -- There is no store as long as pair 0 was not written,
  pub half_made : (p : Pair) (ps : List Pair) → Creating (p ∷ ps) → NewPair p → length (p ∷ ps) ≤ most_pairs → NoStore (p ∷ ps)
  -- nor where a page's first write is cut, wherever that is,
  pub page_cut : (w : Write) → Creating (store w) → FirstWrite w → length (store w) ≤ most_pairs → is_empty w.before ≡ false → Anywhere w.tear (size w)
      → NoStore (after w)
  -- nor where that of pair 0 is and its record does not stand whole, but for an accident.
  pub volume_cut : (w : Write) → Creating (store w) → FirstWrite w → length (store w) ≤ most_pairs → is_empty w.before ≡ true → Anywhere w.tear (size w)
      → (Accident (left w) (old w) (new w) w.payload → ⊥) → whole w ≡ false → NoStore (after w)
  -- Where it stands whole the store is sound,
  pub volume_whole : (w : Write) → Creating (store w) → FirstWrite w → is_empty w.before ≡ true → Anywhere w.tear (size w) → whole w ≡ true
      → Sound (after w)
  -- as it is after that write is finished.
  pub made : (w : Write) → Creating (store w) → FirstWrite w → is_empty w.before ≡ true → Sound (finished w)
