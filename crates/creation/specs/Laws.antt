-- Laws on the words of the creation of a store (docs/FORMAT.md, "The creation of a store"): what it asks for, that the functions which plan a
-- write plan these, and that a history begins with the store that was made. Each is the contract of a function.
use Rattle.std.specs.Prelude.{◌≡◌, true, false, List, [], ◌∷◌, ◌++◌, ℕ, ◌+◌, ◌^◌, ◌≤◌, length, take, map, replicate, Some, Ok}
use Rattle.slot.specs.declared.slot.SlotIndex.{SlotIndex}
use Rattle.slot.specs.declared.slot.SlotInfo.{SlotInfo}
use Rattle.slot.specs.declared.slot.SlotStatus.{SlotStatus}
use Rattle.judge.specs.Numbers.{numbers, highest}
use Rattle.judge.specs.Operators.{operators_in_range}
use Rattle.cut.specs.Store.{Every, Slot, Pair, clean_mark, slot_at, status, shown, frames, SoundSlot, IsRow, Sound}
use Rattle.cut.specs.Cut.{Tear, Write, store, size, old, new, left, after, Anywhere, next_number, Written, whole, Accident, is_empty}
use Rattle.plan.specs.declared.write.Plan.{Plan}
use Rattle.plan.specs.Plan.{plan_write}
use Rattle.plan.specs.Promise.{NumberedPair, write_of, IsGiven, finished}
use Rattle.history.specs.History.{pairs, started, read_mark, HistoryAccident, Reached}
use Rattle.history.specs.Laws.{plan_of}
use Rattle.creation.specs.Creation.{NewPair, FirstWrite, Creating, NoStore}

-- ---- what it asks for

-- A slot of its size that begins with 128 zeros is Blank, whatever follows them,
abbrev pub ZerosAreBlank : Type 0
ZerosAreBlank =
    (s : Slot) → 9 ≤ s.expect.log2_slot_size → s.expect.log2_slot_size ≤ 16 → length s.bytes ≡ 2 ^ s.expect.log2_slot_size
    → take 128 s.bytes ≡ replicate 128 0 → status s ≡ SlotStatus.Blank

-- and of a pair that was not written nothing is asked but that its slots are, and are read as numbered in format 2.
abbrev pub BlankIsNew : Type 0
BlankIsNew =
    (p : Pair) → ((index : SlotIndex) → SoundSlot (slot_at index p)) → ((index : SlotIndex) → status (slot_at index p) ≡ SlotStatus.Blank)
    → NewPair p

-- Any row of such pairs may be the beginning,
abbrev pub AnyRowBegins : Type 0
AnyRowBegins = (ps : List Pair) → IsRow ps → Every NewPair ps → Creating ps

-- then any page may be written,
abbrev pub AnyPageIsWritten : Type 0
AnyPageIsWritten =
    (w : Write) → Creating (store w) → NewPair w.pair → w.index ≡ SlotIndex.A → Written 1 0 (next_number (store w) w.pair) w
    → is_empty w.before ≡ false → Creating (finished w)

-- and pair 0 where no other pair is new.
abbrev pub VolumeIsWrittenLast : Type 0
VolumeIsWrittenLast =
    (w : Write) → Creating (store w) → NewPair w.pair → w.index ≡ SlotIndex.A → Written 1 0 (next_number (store w) w.pair) w
    → is_empty w.before ≡ true → Every (λ (p : Pair). NewPair p → ⊥) w.behind → Creating (finished w)

-- A first write is no more than these together,
abbrev pub AnyFirstWrite : Type 0
AnyFirstWrite =
    (w : Write) → NewPair w.pair → w.index ≡ SlotIndex.A
    → Written 1 0 (highest (numbers w.pair.operator (shown (w.before ++ w.pair ∷ w.behind))) + 1) w
    → (w.before ≡ [] → Every (λ (p : Pair). NewPair p → ⊥) w.behind) → FirstWrite w

-- and over this the theorem is: of rows of up to 112 pairs, wherever a first write is cut.
pub record AnyCreationCut : Type 0 where
  pub half_made : (p : Pair) (ps : List Pair) → Creating (p ∷ ps) → NewPair p → length (p ∷ ps) ≤ 112 → NoStore (p ∷ ps)
  pub page_cut : (w : Write) (p : Pair) (ps : List Pair) → w.before ≡ p ∷ ps → Creating (store w) → FirstWrite w → length (store w) ≤ 112
      → Anywhere w.tear (size w) → NoStore (after w)
  pub volume_cut : (w : Write) → w.before ≡ [] → Creating (store w) → FirstWrite w → length (store w) ≤ 112
      → Anywhere w.tear (size w) → (Accident (left w) (old w) (new w) w.payload → ⊥) → whole w ≡ false → NoStore (after w)
  pub volume_whole : (w : Write) → w.before ≡ [] → Creating (store w) → FirstWrite w → Anywhere w.tear (size w) → whole w ≡ true → Sound (after w)
  pub made : (w : Write) → w.before ≡ [] → Creating (store w) → FirstWrite w → Sound (finished w)
  -- The judge answers so of any row that it does not refuse where neither slot of pair 0 is Valid.
  pub neither : (p : Pair) (ps : List Pair) → length (p ∷ ps) ≤ 112 → operators_in_range true (shown (p ∷ ps)) ≡ true → Every NumberedPair (p ∷ ps)
      → ((index : SlotIndex) (i : SlotInfo) → status (slot_at index p) ≡ SlotStatus.Valid i → ⊥) → NoStore (p ∷ ps)

-- ---- the plans

-- `plan_write` gives each first write,
abbrev pub FirstIsPlanned : Type 0
FirstIsPlanned =
    (w : Write) → Creating (store w) → FirstWrite w → length (store w) ≤ 112 → plan_write (frames (store w)) (length w.before) ≡ Ok (Some (plan_of w))

-- and what it gives to a pair that was not written, with what a planned write is given, is one: of a page always, of pair 0 when every other
-- pair was written.
abbrev pub PlanIsFirst : Type 0
PlanIsFirst =
    (before : List Pair) (p : Pair) (behind : List Pair) (plan : Plan) (owner compat : ℕ) (payload buffer : List ℕ) (tear : Tear)
    → Creating (before ++ p ∷ behind)
    → NewPair p
    → (is_empty before ≡ true → Every (λ (q : Pair). NewPair q → ⊥) behind)
    → plan_write (frames (before ++ p ∷ behind)) (length before) ≡ Ok (Some plan)
    → IsGiven (write_of before p behind plan owner compat payload buffer tear)
    → FirstWrite (write_of before p behind plan owner compat payload buffer tear)

-- ---- the history that begins

-- With the store that was made a history begins, and the mark that is read is that of its volume record,
pub record Begins (ps : List Pair) (record_written : List ℕ) : Type 0 where
  pub reached : Reached HistoryAccident (map started ps)
  pub read : read_mark (pairs (map started ps)) ≡ clean_mark record_written

-- where pair 0's first write is finished,
abbrev pub MadeBegins : Type 0
MadeBegins =
    (w : Write) → Creating (store w) → FirstWrite w → is_empty w.before ≡ true → length (store w) ≤ 112 → Begins (finished w) w.payload

-- and where it is cut and its record stands whole.
abbrev pub WholeBegins : Type 0
WholeBegins =
    (w : Write) → Creating (store w) → FirstWrite w → is_empty w.before ≡ true → Anywhere w.tear (size w) → whole w ≡ true → length (store w) ≤ 112
    → Begins (after w) w.payload
