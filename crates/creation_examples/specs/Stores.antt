-- A store of three pairs of slots of 512 bytes before its creation and after each first write (docs/FORMAT.md, "The creation of a store"):
-- the volume record and two pages, the second one another operator's.
use Rattle.std.specs.Prelude.{false, List, [], ◌∷◌, ℕ}
use Rattle.slot.specs.declared.slot.SlotIndex.{SlotIndex}
use Rattle.slot.specs.declared.slot.SlotFields.{SlotFields}
use Rattle.cut.specs.Store.{Decoder, Volume, Page, Pair}
use Rattle.cut_examples.specs.Stores.{volume_record, page_record, fields, written_slot, blank_slot}

-- ---- pairs

-- A pair that was not written: both slots are Blank, and hold 9s after their first 128 bytes.
abbrev pub blank_pair : (object : ℕ) → Decoder → (operator : ℕ) → Pair
blank_pair object decoder operator =
    record { a = blank_slot object SlotIndex.A; b = blank_slot object SlotIndex.B; decoder = decoder; operator = operator }

abbrev pub blank_volume : Pair
blank_volume = blank_pair 0 Volume 0

abbrev pub blank_page_0 : Pair
blank_page_0 = blank_pair 1 (Page 0 41) 0

abbrev pub blank_page_1 : Pair
blank_page_1 = blank_pair 2 (Page 1 41) 1

-- A pair after its first write: A is as `encode` writes it, and B as before.
abbrev pub written_pair : SlotFields → (payload : List ℕ) → Decoder → (operator : ℕ) → Pair
written_pair f payload decoder operator =
    record { a = written_slot f payload; b = blank_slot f.object_id SlotIndex.B; decoder = decoder; operator = operator }

-- The first write has generation 1 and previous checksum 0. Page 1 and page 0 are the first of their operators, with number 1; the volume
-- record comes after page 0, with number 2.
abbrev pub volume_fields : SlotFields
volume_fields = fields 9 0 SlotIndex.A 1 0 2

abbrev pub page_0_fields : SlotFields
page_0_fields = fields 9 1 SlotIndex.A 1 0 1

abbrev pub page_1_fields : SlotFields
page_1_fields = fields 9 2 SlotIndex.A 1 0 1

abbrev pub volume_pair : Pair
volume_pair = written_pair volume_fields (volume_record false) Volume 0

abbrev pub page_0_pair : Pair
page_0_pair = written_pair page_0_fields (page_record 0 1) (Page 0 41) 0

abbrev pub page_1_pair : Pair
page_1_pair = written_pair page_1_fields (page_record 1 0) (Page 1 41) 1

-- ---- the stores

abbrev pub blank_store : List Pair
blank_store = blank_volume ∷ blank_page_0 ∷ blank_page_1 ∷ []

abbrev pub page_1_store : List Pair
page_1_store = blank_volume ∷ blank_page_0 ∷ page_1_pair ∷ []

abbrev pub pages_store : List Pair
pages_store = blank_volume ∷ page_0_pair ∷ page_1_pair ∷ []

abbrev pub made_store : List Pair
made_store = volume_pair ∷ page_0_pair ∷ page_1_pair ∷ []
