-- The theorem on the creation of a store is not empty (docs/FORMAT.md, "The creation of a store"): the store of Stores.antt is created, page 1
-- first and the volume record last; the first writes of page 0 and of the volume record are cut at seven places that meet every hypothesis.
use Rattle.std.specs.Prelude.{◌≡◌, true, false, [], ◌∷◌, ℕ, ◌≤◌, length, Some, Ok}
use Rattle.slot.specs.declared.slot.SlotIndex.{SlotIndex}
use Rattle.judge.specs.Judge.{most_pairs}
use Rattle.cut.specs.Store.{Every, frames, Sound}
use Rattle.cut.specs.Cut.{Ascending, Write, store, size, old, new, left, after, Anywhere, whole, Accident, is_empty}
use Rattle.cut_examples.specs.Stores.{volume_record, page_record}
use Rattle.cut_examples.specs.Writes.{write_to}
use Rattle.plan.specs.declared.write.Plan.{Plan}
use Rattle.plan.specs.Plan.{plan_write}
use Rattle.plan.specs.Promise.{finished}
use Rattle.history.specs.Laws.{plan_of}
use Rattle.creation.specs.Creation.{FirstWrite, Creating, NoStore}
use Rattle.creation.specs.Laws.{Begins}
use Rattle.creation_examples.specs.Stores.{blank_volume, blank_page_0, blank_page_1, volume_fields, page_0_fields, page_1_fields, page_0_pair, page_1_pair, blank_store, page_1_store, pages_store, made_store}

-- ---- the writes

-- The first writes in their order, each cut after k bytes.
abbrev pub page_1_write : ℕ → Write
page_1_write k = write_to (blank_volume ∷ blank_page_0 ∷ []) blank_page_1 [] page_1_fields (page_record 1 0) (Ascending k)

abbrev pub page_0_write : ℕ → Write
page_0_write k = write_to (blank_volume ∷ []) blank_page_0 (page_1_pair ∷ []) page_0_fields (page_record 0 1) (Ascending k)

abbrev pub volume_write : ℕ → Write
volume_write k = write_to [] blank_volume (page_0_pair ∷ page_1_pair ∷ []) volume_fields (volume_record false) (Ascending k)

-- The stores that they are written to, and those that they leave.
abbrev pub StoresWritten : Type 0
StoresWritten =
    (k : ℕ)
    → (store (page_1_write k) ≡ blank_store) × (finished (page_1_write k) ≡ page_1_store)
    × (store (page_0_write k) ≡ page_1_store) × (finished (page_0_write k) ≡ pages_store)
    × (store (volume_write k) ≡ pages_store) × (finished (volume_write k) ≡ made_store)

-- ---- the store is created

-- Each is a first write, wherever it is cut.
pub record FirstWrites : Type 0 where
  pub page_1 : (k : ℕ) → FirstWrite (page_1_write k)
  pub page_0 : (k : ℕ) → FirstWrite (page_0_write k)
  pub volume : (k : ℕ) → FirstWrite (volume_write k)

abbrev pub StoresCreating : Type 0
StoresCreating = Creating blank_store × Creating page_1_store × Creating pages_store × Creating made_store

-- The store is sound and a history begins, with the volume record finished, and with the first 192 bytes of its slot.
pub record Made : Type 0 where
  pub sound : Sound made_store
  pub begins : Begins made_store (volume_record false)
  pub whole_sound : Sound (after (volume_write 192))
  pub whole_begins : Begins (after (volume_write 192)) (volume_record false)

-- ---- the plans

-- The plan of a first write with a number.
abbrev pub first_plan : ℕ → Plan
first_plan number = record { index = SlotIndex.A; generation = 1; prev_header_crc32c = 0; meta_seq = number }

-- Over the frames of the store that w is written to `plan_write` gives this plan, and w is written by it.
abbrev pub PlannedAs : Write → Plan → Type 0
PlannedAs w plan = (plan_write (frames (store w)) (length w.before) ≡ Ok (Some plan)) × (plan_of w ≡ plan)

pub record Planned : Type 0 where
  pub page_1 : (k : ℕ) → PlannedAs (page_1_write k) (first_plan 1)
  pub page_0 : (k : ℕ) → PlannedAs (page_0_write k) (first_plan 1)
  pub volume : (k : ℕ) → PlannedAs (volume_write k) (first_plan 2)

-- ---- the cuts

-- What the theorem asks of a first write and its cut.
pub record IsMet (w : Write) : Type 0 where
  pub creating : Creating (store w)
  pub first : FirstWrite w
  pub few : length (store w) ≤ most_pairs
  pub anywhere : Anywhere w.tear (size w)
  pub none : Accident (left w) (old w) (new w) w.payload → ⊥

-- Nothing else is asked: what the theorem concludes follows, of a page, of pair 0 whose record does not stand whole, and of one whose does.
abbrev pub MetIsEnough : Type 0
MetIsEnough =
    (w : Write) → IsMet w
    → (is_empty w.before ≡ false → NoStore (after w))
    × (is_empty w.before ≡ true → whole w ≡ false → NoStore (after w))
    × (is_empty w.before ≡ true → whole w ≡ true → Sound (after w))

-- After 3 bytes the magic is broken; after 64 the header fails its checksum; after 140 the payload is half new, and half what stood there
-- before.
abbrev pub PageMet : Type 0
PageMet = Every (λ (k : ℕ). IsMet (page_0_write k)) (3 ∷ 64 ∷ 140 ∷ [])

-- After 191 bytes the payload's last one, a zero, is missing, and after 192 it is there.
abbrev pub VolumeMet : Type 0
VolumeMet = Every (λ (k : ℕ). IsMet (volume_write k)) (3 ∷ 64 ∷ 191 ∷ 192 ∷ [])

abbrev pub StandsWhole : Type 0
StandsWhole = (whole (volume_write 191) ≡ false) × (whole (volume_write 192) ≡ true)
