-- The life of a store (docs/FORMAT.md, "The life of a store"): it is closed and opened again, a page of it is written, and it is closed
-- again. The write that opens it is cut and healed, and so is the page's. What heals is the record that is read, written anew; of the volume
-- record that is the one with the clean mark, so after the heal the store is closed as before.
--
-- The values follow from docs/FORMAT.md, "Slot status", "Header facts", "The store verdict" and "The winner's payload".
use Rattle.std.specs.Prelude.{◌≡◌, true, false, List, [], ◌∷◌, Some, None}
use Rattle.slot.specs.declared.slot.SlotIndex.{SlotIndex}
use Rattle.slot.specs.declared.slot.SlotFields.{SlotFields}
use Rattle.cut.specs.Cut.{Ascending, Write}
use Rattle.cut_examples.specs.Stores.{volume_by, volume_record, reopened_record, page_record, fields, volume_pair, marked_fields, first_page, second_page}
use Rattle.cut_examples.specs.Writes.{opening_fields, next_fields}
use Rattle.cut_examples.specs.Computed.{torn_header, torn_payload, valid_read}
use Rattle.cut_examples.specs.Cuts.{old_records, new_volume_records, reopened_records, volume_read, marked_read}
use Rattle.history.specs.History.{Tracked, pairs, started, named, Allowed, HistoryAccident, Put, write_to, finished, torn_by, Reached}
use Rattle.history_examples.specs.States.{put, StoreIs, NumbersIn}

-- ---- the history

-- The store with these as its pairs 0 and 2. Nothing is written to pair 1.
abbrev pub store_of : Tracked → Tracked → List Tracked
store_of v p = v ∷ started first_page ∷ p ∷ []

-- A write to its volume record, and to the page of pair 2.
abbrev pub volume_write : Tracked → Tracked → Put → Write
volume_write v p q = write_to [] v (started first_page ∷ p ∷ []) q

abbrev pub page_write : Tracked → Tracked → Put → Write
page_write v p q = write_to (v ∷ started first_page ∷ []) p [] q

-- At first it is open.
abbrev pub volume_at_first : Tracked
volume_at_first = started volume_pair

abbrev pub page_at_first : Tracked
page_at_first = started second_page

-- It is closed: generation 2 to slot B of pair 0, with the clean mark.
abbrev pub closing_put : Put
closing_put = put marked_fields (volume_record true) (Ascending 512)

abbrev pub closed : Tracked
closed = finished (volume_write volume_at_first page_at_first closing_put) volume_at_first

-- It is opened: generation 3 to slot A, without the mark, which is cut after 64 bytes.
abbrev pub opening_put : Put
opening_put = put opening_fields (reopened_record false) (Ascending 64)

abbrev pub torn_opening : Tracked
torn_opening = torn_by (volume_write closed page_at_first opening_put) closed

-- The write that heals has the winner's record, with the mark, and its number is one above the winners of operator 0: 6. Its header's
-- checksum is 0x8674_efd5.
abbrev pub healing_put : Put
healing_put = put opening_fields (volume_record true) (Ascending 512)

abbrev pub healed : Tracked
healed = finished (volume_write torn_opening page_at_first healing_put) torn_opening

-- It is opened: generation 4 to slot B. Its header's checksum is 0x6f25_7368.
abbrev pub reopening_fields : SlotFields
reopening_fields = fields 9 0 SlotIndex.B 4 0x8674_efd5 7

abbrev pub reopening_put : Put
reopening_put = put reopening_fields (reopened_record false) (Ascending 512)

abbrev pub opened : Tracked
opened = finished (volume_write healed page_at_first reopening_put) healed

-- The page of pair 2 is written: generation 2 to slot B, which is cut after 140 bytes.
abbrev pub page_put : Put
page_put = put next_fields (page_record 1 1) (Ascending 140)

abbrev pub torn_page : Tracked
torn_page = torn_by (page_write opened page_at_first page_put) page_at_first

-- The write that heals has the winner's record, and its number is one above the winners of operator 1: 4. Its header's checksum is
-- 0x142d_17bf.
abbrev pub page_healing_put : Put
page_healing_put = put next_fields (page_record 1 0) (Ascending 512)

abbrev pub healed_page : Tracked
healed_page = finished (page_write opened torn_page page_healing_put) torn_page

-- It is closed: generation 5 to slot A of pair 0, with the clean mark. Its header's checksum is 0x0430_18cf.
abbrev pub last_fields : SlotFields
last_fields = fields 9 0 SlotIndex.A 5 0x6f25_7368 8

abbrev pub last_put : Put
last_put = put last_fields (reopened_record true) (Ascending 512)

abbrev pub closed_again : Tracked
closed_again = finished (volume_write opened healed_page last_put) opened

-- The history leads to each of them, and none of the theorem's accidents happened.
pub record LifeReached : Type 0 where
  pub first : Reached HistoryAccident (store_of volume_at_first page_at_first)
  pub closing : Reached HistoryAccident (store_of closed page_at_first)
  pub cut : Reached HistoryAccident (store_of torn_opening page_at_first)
  pub healing : Reached HistoryAccident (store_of healed page_at_first)
  pub opening : Reached HistoryAccident (store_of opened page_at_first)
  pub page_cut : Reached HistoryAccident (store_of opened torn_page)
  pub page_healing : Reached HistoryAccident (store_of opened healed_page)
  pub closing_again : Reached HistoryAccident (store_of closed_again healed_page)

-- ---- what is computed

-- The slot is the written one, and at first slot A of pair 0. Of two marks the first is the one that is read from pair 0 and handed to the
-- judge, the other the one that it answers.
pub record LifeStates : Type 0 where
  -- A is of generation 1, and B Blank.
  pub first : StoreIs (store_of volume_at_first page_at_first) volume_at_first SlotIndex.A volume_read false None false
      (0 ∷ 1 ∷ 0 ∷ 1 ∷ 0 ∷ 2 ∷ 1 ∷ 0 ∷ 0 ∷ 1 ∷ 0 ∷ 1 ∷ []) old_records (volume_record false ∷ [])
  -- B is Valid and newer: Winner. Its mark counts.
  pub closing : StoreIs (store_of closed page_at_first) closed SlotIndex.B marked_read true None true
      (0 ∷ 2 ∷ 1 ∷ 0 ∷ 0 ∷ 2 ∷ 1 ∷ 0 ∷ 0 ∷ 1 ∷ 0 ∷ 1 ∷ []) new_volume_records (volume_record true ∷ [])
  -- The header fails its checksum, and the stored one, the new one, is not B's previous one: InFlight. B's mark is read, and does not count
  -- beside it.
  pub cut : StoreIs (store_of torn_opening page_at_first) torn_opening SlotIndex.A (torn_header 0x9172_d3ee) true (Some (0, SlotIndex.A)) false
      (0 ∷ 2 ∷ 3 ∷ 0 ∷ 0 ∷ 2 ∷ 1 ∷ 0 ∷ 0 ∷ 1 ∷ 0 ∷ 1 ∷ []) new_volume_records (reopened_record false ∷ volume_record true ∷ [])
  -- A is Valid and newer: Winner. Its record is the one of before, and its mark counts.
  pub healing : StoreIs (store_of healed page_at_first) healed SlotIndex.A (valid_read 3 6 0x8674_efd5 0x880c_0bb0 64) true None true
      (0 ∷ 1 ∷ 0 ∷ 1 ∷ 0 ∷ 2 ∷ 1 ∷ 0 ∷ 0 ∷ 1 ∷ 0 ∷ 1 ∷ []) new_volume_records (volume_record true ∷ [])
  -- B is Valid and newer: Winner. Its mark is not set.
  pub opening : StoreIs (store_of opened page_at_first) opened SlotIndex.B (valid_read 4 7 0x6f25_7368 0x8674_efd5 64) false None false
      (0 ∷ 2 ∷ 1 ∷ 0 ∷ 0 ∷ 2 ∷ 1 ∷ 0 ∷ 0 ∷ 1 ∷ 0 ∷ 1 ∷ []) reopened_records (reopened_record false ∷ [])
  -- The payload fails its checksum, generation and previous checksum follow on, and the number those of its operator: InFlight.
  pub page_cut : StoreIs (store_of opened torn_page) torn_page SlotIndex.B
      (torn_payload 2 4 0x1916_772d 0x2c8c_2a3c) false (Some (2, SlotIndex.B)) false
      (0 ∷ 2 ∷ 1 ∷ 0 ∷ 0 ∷ 2 ∷ 1 ∷ 0 ∷ 0 ∷ 1 ∷ 0 ∷ 3 ∷ []) reopened_records (page_record 1 1 ∷ page_record 1 0 ∷ [])
  -- B is Valid and newer: Winner. Its record is the one of before; the one that was cut may be read no more.
  pub page_healing : StoreIs (store_of opened healed_page) healed_page SlotIndex.B (valid_read 2 4 0x142d_17bf 0x2c8c_2a3c 24) false None false
      (0 ∷ 2 ∷ 1 ∷ 0 ∷ 0 ∷ 2 ∷ 1 ∷ 0 ∷ 0 ∷ 2 ∷ 1 ∷ 0 ∷ []) reopened_records (page_record 1 0 ∷ [])
  -- A is Valid and newer: Winner. Its mark counts.
  pub closing_again : StoreIs (store_of closed_again healed_page) closed_again SlotIndex.A (valid_read 5 8 0x0430_18cf 0x6f25_7368 64) true None true
      (0 ∷ 1 ∷ 0 ∷ 1 ∷ 0 ∷ 2 ∷ 1 ∷ 0 ∷ 0 ∷ 2 ∷ 1 ∷ 0 ∷ []) (reopened_record true ∷ page_record 0 2 ∷ page_record 1 0 ∷ [])
      (reopened_record true ∷ [])

-- The numbers of the written pair's operator.
pub record LifeNumbers : Type 0 where
  -- Pairs 0 and 1 are operator 0's; the highest number is that of pair 1's slot B, 4.
  pub first : NumbersIn (store_of volume_at_first page_at_first) volume_at_first 5 5
  pub closing : NumbersIn (store_of closed page_at_first) closed 6 6
  -- A header that fails does not count with its number.
  pub cut : NumbersIn (store_of torn_opening page_at_first) torn_opening 6 6
  pub healing : NumbersIn (store_of healed page_at_first) healed 7 7
  pub opening : NumbersIn (store_of opened page_at_first) opened 8 8
  -- One that passes counts, though its payload fails: of operator 1 the winner has the number 3, and the write that heals goes over the 4.
  pub page_cut : NumbersIn (store_of opened torn_page) torn_page 5 4
  pub page_healing : NumbersIn (store_of opened healed_page) healed_page 5 5
  pub closing_again : NumbersIn (store_of closed_again healed_page) closed_again 9 9

-- ---- while it is closed

-- No slot is named and no page may be written; this write to the volume record may.
pub record VolumeAlone (v p : Tracked) (q : Put) : Type 0 where
  pub none_named : named (pairs (store_of v p)) ≡ None
  pub no_first_page : (other : Put) → Allowed (write_to (v ∷ []) (started first_page) (p ∷ []) other) → ⊥
  pub no_second_page : (other : Put) → Allowed (page_write v p other) → ⊥
  pub volume : Allowed (volume_write v p q)

-- It is opened once more: generation 6 to slot B.
abbrev pub third_fields : SlotFields
third_fields = fields 9 0 SlotIndex.B 6 0x0430_18cf 9

abbrev pub third_put : Put
third_put = put third_fields (volume_by 3 false) (Ascending 512)

-- So it is when it was closed, when the write that opens it was healed, and when it was closed again.
pub record LifeClosed : Type 0 where
  pub closing : VolumeAlone closed page_at_first opening_put
  pub healing : VolumeAlone healed page_at_first reopening_put
  pub closing_again : VolumeAlone closed_again healed_page third_put
