-- The cut theorem is not empty (docs/FORMAT.md, "The sound store and the cut"): six writes to the stores of Stores.antt, one of them to the
-- other operator's page and one to a store whose clean mark is set, cut at thirty places and with four sets of sectors, meet every
-- hypothesis of it.
use Rattle.std.specs.Prelude.{◌≡◌, Bool, true, false, ◌==◌, List, [], ◌∷◌, ℕ, ◌*◌, ◌≤◌, length}
use Rattle.slot.specs.declared.slot.SlotIndex.{SlotIndex}
use Rattle.slot.specs.declared.slot.SlotFields.{SlotFields}
use Rattle.judge.specs.Judge.{most_pairs}
use Rattle.judge.specs.Frames.{verdict_width}
use Rattle.cut.specs.Store.{Every, Pair, store_mark, Sound}
use Rattle.cut.specs.Cut.{Tear, Ascending, Sectors, Write, store, size, old, new, left, Possible, CorrectWrite, whole, AccidentBy, handed, VolumeIfMarked, Survives}
use Rattle.cut_examples.specs.Stores.{volume_record, reopened_record, page_record, long_record, fields, zeros_for, volume_pair, marked_fields, closed_volume, first_page, second_page, new_fields, later_page, long_page, first_store, closed_store, later_store, long_store}

-- ---- the hypotheses

-- The stores are sound.
abbrev pub StoresSound : Type 0
StoresSound = Sound first_store × Sound closed_store × Sound later_store × Sound long_store

-- The clean mark of one is set.
abbrev pub StoresMarked : Type 0
StoresMarked =
    (store_mark first_store ≡ false) × (store_mark closed_store ≡ true) × (store_mark later_store ≡ false) × (store_mark long_store ≡ false)

-- What the theorem asks of a write and its cut.
pub record IsMet (w : Write) : Type 0 where
  pub sound : Sound (store w)
  pub few : length (store w) ≤ most_pairs
  pub first : VolumeIfMarked w.before w.pair w.behind
  pub correct : CorrectWrite w
  pub possible : Possible w.tear (size w)
  pub none : AccidentBy w.tear (left w) (old w) (new w) w.payload → ⊥

-- Nothing else is asked: what the theorem concludes follows.
abbrev pub MetIsEnough : Type 0
MetIsEnough = (w : Write) → IsMet w → (out : List ℕ) → length out ≡ length (store w) * verdict_width → Survives w out

-- ---- the writes

-- `encode` of the fields and the payload into zeros, for the slot of the pair that the fields name.
abbrev pub write_to : (before : List Pair) → Pair → (behind : List Pair) → SlotFields → (payload : List ℕ) → Tear → Write
write_to before p behind f payload tear =
    record {
      before = before;
      pair = p;
      behind = behind;
      index = f.slot_index;
      fields = f;
      payload = payload;
      buffer = zeros_for f;
      tear = tear;
    }

-- A page to slot A of pair 1 over generation 1: generation 3, with B's checksum and number 5.
abbrev pub page_write : ℕ → Write
page_write k = write_to (volume_pair ∷ []) first_page (second_page ∷ []) new_fields (page_record 0 0x304) (Ascending k)

-- The store is closed: the volume record with its clean mark set to the Blank slot B of pair 0: generation 2, with A's checksum and number 5.
abbrev pub volume_write : ℕ → Write
volume_write k = write_to [] volume_pair (first_page ∷ second_page ∷ []) marked_fields (volume_record true) (Ascending k)

-- The closed store is opened: the volume record with its owner generation raised and its clean mark cleared to slot A of pair 0, over
-- generation 1: generation 3, with B's checksum and number 6.
abbrev pub opening_fields : SlotFields
opening_fields = fields 9 0 SlotIndex.A 3 0x880c_0bb0 6

abbrev pub opening_write : ℕ → Write
opening_write k = write_to [] closed_volume (first_page ∷ second_page ∷ []) opening_fields (reopened_record false) (Ascending k)

-- A page to the Blank slot B of pair 2: generation 2, with A's checksum and number 4: its operator's highest is 3, and that of the others 4.
abbrev pub next_fields : SlotFields
next_fields = fields 9 2 SlotIndex.B 2 0x2c8c_2a3c 4

abbrev pub second_write : ℕ → Write
second_write k = write_to (volume_pair ∷ first_page ∷ []) second_page [] next_fields (page_record 1 1) (Ascending k)

-- A page to slot B of the later pair 1 over generation 2: generation 4, with A's checksum and number 6. Its next seq makes the new header's
-- checksum that of the header it is written over.
abbrev pub later_fields : SlotFields
later_fields = fields 9 1 SlotIndex.B 4 0xd61e_00d0 6

abbrev pub later_write : ℕ → Write
later_write k = write_to (volume_pair ∷ []) later_page (second_page ∷ []) later_fields (page_record 0 0x21b9_61ac) (Ascending k)

-- A page of four entries to slot A of the pair with slots of 1,024 bytes, over generation 1: generation 3, with B's checksum and number 5.
abbrev pub long_fields : SlotFields
long_fields = fields 10 3 SlotIndex.A 3 0xd7d6_5030 5

abbrev pub long_write : (ℕ → Bool) → Write
long_write reached = write_to (volume_pair ∷ []) long_page (second_page ∷ []) long_fields (long_record 0x2_8000 5) (Sectors reached)

-- The same in ascending order.
abbrev pub long_write_in_order : ℕ → Write
long_write_in_order k = write_to (volume_pair ∷ []) long_page (second_page ∷ []) long_fields (long_record 0x2_8000 5) (Ascending k)

-- The stores that they are written to.
abbrev pub StoresWritten : Type 0
StoresWritten =
    (k : ℕ) (reached : ℕ → Bool)
    → (store (page_write k) ≡ first_store) × (store (volume_write k) ≡ first_store) × (store (opening_write k) ≡ closed_store)
    × (store (second_write k) ≡ first_store) × (store (later_write k) ≡ later_store) × (store (long_write reached) ≡ long_store)
    × (store (long_write_in_order k) ≡ long_store)

-- ---- the cuts

-- After 8 bytes the header is the old one; after 11 and 64 it is neither and fails; after 127 it is the new one, since its last byte is
-- zero; after 133 the payload is neither and fails; after 134 it is the new one, since zeros follow.
abbrev pub PageMet : Type 0
PageMet = Every (λ (k : ℕ). IsMet (page_write k)) (0 ∷ 8 ∷ 11 ∷ 64 ∷ 127 ∷ 128 ∷ 133 ∷ 134 ∷ 512 ∷ [])

-- After 8 and 11 bytes the header's length is still zero; after 128 the payload is what stood there before.
abbrev pub VolumeMet : Type 0
VolumeMet = Every (λ (k : ℕ). IsMet (volume_write k)) (0 ∷ 8 ∷ 11 ∷ 64 ∷ 128 ∷ 191 ∷ 192 ∷ [])

-- After 8 bytes the header is the old one; after 11 and 64 it is neither and fails; after 128 it is the new one; after 136 the payload is the
-- old one and fails; after 137, with its owner generation, it is the new one, since nothing else of it is new.
abbrev pub OpeningMet : Type 0
OpeningMet = Every (λ (k : ℕ). IsMet (opening_write k)) (0 ∷ 8 ∷ 11 ∷ 64 ∷ 128 ∷ 136 ∷ 137 ∷ 192 ∷ [])

-- After 140 bytes the payload is half new, and half what stood there before.
abbrev pub SecondMet : Type 0
SecondMet = IsMet (second_write 140)

-- After 64 bytes the header is neither and fails, and the checksum stored in it is the old one's and the new one's; after 133 the payload
-- fails.
abbrev pub LaterMet : Type 0
LaterMet = Every (λ (k : ℕ). IsMet (later_write k)) (64 ∷ 133 ∷ [])

-- Of the two sectors of the slot neither is new, the first, the second, both.
abbrev pub neither : ℕ → Bool
neither j = false

abbrev pub the_first : ℕ → Bool
the_first j = j == 0

abbrev pub the_second : ℕ → Bool
the_second j = j == 1

abbrev pub both : ℕ → Bool
both j = true

-- Under the new header the payload fails without the second sector, and under the old header with it.
abbrev pub LongMet : Type 0
LongMet = Every (λ (reached : ℕ → Bool). IsMet (long_write reached)) (neither ∷ the_first ∷ the_second ∷ both ∷ [])

-- In ascending order the payload fails after 528 bytes, with the new end and the old footprint number of its last entry, and after 529 it is the
-- new one, since zeros follow.
abbrev pub LongInOrderMet : Type 0
LongInOrderMet = Every (λ (k : ℕ). IsMet (long_write_in_order k)) (528 ∷ 529 ∷ 1024 ∷ [])

-- ---- what stands whole, and the mark

-- The page stands whole with its last byte that is not zero, and the one of four entries with both sectors.
abbrev pub StandsWhole : Type 0
StandsWhole = (whole (page_write 133) ≡ false) × (whole (page_write 134) ≡ true)

abbrev pub LongWhole : Type 0
LongWhole = (whole (long_write the_first) ≡ false) × (whole (long_write the_second) ≡ false) × (whole (long_write both) ≡ true)

abbrev pub LongInOrderWhole : Type 0
LongInOrderWhole = (whole (long_write_in_order 528) ≡ false) × (whole (long_write_in_order 529) ≡ true)

-- The judge is handed the new record's mark once the volume record stands whole, and the mark of before until then.
abbrev pub MarkHanded : Type 0
MarkHanded = (handed (volume_write 191) ≡ false) × (handed (volume_write 192) ≡ true)

abbrev pub OldMarkHanded : Type 0
OldMarkHanded = (handed (opening_write 136) ≡ true) × (handed (opening_write 137) ≡ false)
