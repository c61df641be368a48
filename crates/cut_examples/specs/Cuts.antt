-- What is expected after each cut of the writes. The values follow from docs/FORMAT.md, "Slot status", "Header facts", "The store verdict"
-- and "The winner's payload".
use Rattle.std.specs.Prelude.{true, false, List, [], ◌∷◌, ℕ, Some, None}
use Rattle.slot.specs.declared.slot.SlotIndex.{SlotIndex}
use Rattle.judge.specs.declared.records.SlotRead.{SlotRead}
use Rattle.cut.specs.Store.{Every}
use Rattle.cut_examples.specs.Stores.{volume_record, reopened_record, page_record, long_record}
use Rattle.cut_examples.specs.Writes.{page_write, volume_write, opening_write, second_write, later_write, long_write, long_write_in_order, neither, the_first, the_second, both}
use Rattle.cut_examples.specs.Computed.{Computed, blank_read, bad_magic, torn_header, torn_payload, valid_read}

-- ---- the records

-- Before the writes, with the new page, and with the clean mark.
abbrev pub old_records : List (List ℕ)
old_records = volume_record false ∷ page_record 0 2 ∷ page_record 1 0 ∷ []

abbrev pub new_page_records : List (List ℕ)
new_page_records = volume_record false ∷ page_record 0 0x304 ∷ page_record 1 0 ∷ []

abbrev pub new_volume_records : List (List ℕ)
new_volume_records = volume_record true ∷ page_record 0 2 ∷ page_record 1 0 ∷ []

-- After the opening.
abbrev pub reopened_records : List (List ℕ)
reopened_records = reopened_record false ∷ page_record 0 2 ∷ page_record 1 0 ∷ []

-- ---- a page is written to slot A of pair 1

abbrev pub older_read : SlotRead
older_read = valid_read 1 2 0x588e_9174 0 24

abbrev pub torn_page : SlotRead
torn_page = torn_payload 3 5 0xd61e_00d0 0xe83c_e718

abbrev pub new_read : SlotRead
new_read = valid_read 3 5 0xd61e_00d0 0xe83c_e718 24

pub record PageCuts : Type 0 where
  -- The old slot is Valid and older: Nothing.
  pub page_0 : Computed (page_write 0) older_read None false (0 ∷ 1 ∷ 0 ∷ 1 ∷ 0 ∷ 2 ∷ 1 ∷ 0 ∷ 0 ∷ 1 ∷ 0 ∷ 1 ∷ []) old_records
  pub page_8 : Computed (page_write 8) older_read None false (0 ∷ 1 ∷ 0 ∷ 1 ∷ 0 ∷ 2 ∷ 1 ∷ 0 ∷ 0 ∷ 1 ∷ 0 ∷ 1 ∷ []) old_records
  -- The header fails its checksum, and the stored one, of three new bytes and one old, is not B's previous one: InFlight.
  pub page_11 : Computed (page_write 11) (torn_header 0x581e_00d0) (Some (1, SlotIndex.A)) false (0 ∷ 1 ∷ 0 ∷ 1 ∷ 0 ∷ 2 ∷ 3 ∷ 0 ∷ 0 ∷ 1 ∷ 0 ∷ 1 ∷ []) old_records
  -- The stored one is the new one: InFlight.
  pub page_64 : Computed (page_write 64) (torn_header 0xd61e_00d0) (Some (1, SlotIndex.A)) false (0 ∷ 1 ∷ 0 ∷ 1 ∷ 0 ∷ 2 ∷ 3 ∷ 0 ∷ 0 ∷ 1 ∷ 0 ∷ 1 ∷ []) old_records
  -- The payload fails its checksum, generation, previous checksum and number follow on: InFlight.
  pub page_127 : Computed (page_write 127) torn_page (Some (1, SlotIndex.A)) false (0 ∷ 1 ∷ 0 ∷ 1 ∷ 0 ∷ 2 ∷ 3 ∷ 0 ∷ 0 ∷ 1 ∷ 0 ∷ 1 ∷ []) old_records
  pub page_128 : Computed (page_write 128) torn_page (Some (1, SlotIndex.A)) false (0 ∷ 1 ∷ 0 ∷ 1 ∷ 0 ∷ 2 ∷ 3 ∷ 0 ∷ 0 ∷ 1 ∷ 0 ∷ 1 ∷ []) old_records
  pub page_133 : Computed (page_write 133) torn_page (Some (1, SlotIndex.A)) false (0 ∷ 1 ∷ 0 ∷ 1 ∷ 0 ∷ 2 ∷ 3 ∷ 0 ∷ 0 ∷ 1 ∷ 0 ∷ 1 ∷ []) old_records
  -- The new slot is Valid and newer: Winner.
  pub page_134 : Computed (page_write 134) new_read None false (0 ∷ 1 ∷ 0 ∷ 1 ∷ 0 ∷ 1 ∷ 0 ∷ 1 ∷ 0 ∷ 1 ∷ 0 ∷ 1 ∷ []) new_page_records
  pub page_512 : Computed (page_write 512) new_read None false (0 ∷ 1 ∷ 0 ∷ 1 ∷ 0 ∷ 1 ∷ 0 ∷ 1 ∷ 0 ∷ 1 ∷ 0 ∷ 1 ∷ []) new_page_records

-- ---- the volume record is written to slot B of pair 0

abbrev pub torn_volume : SlotRead
torn_volume = torn_payload 2 5 0x880c_0bb0 0x1d15_7c74

abbrev pub marked_read : SlotRead
marked_read = valid_read 2 5 0x880c_0bb0 0x1d15_7c74 64

pub record VolumeCuts : Type 0 where
  -- The old slot is Blank beside generation 1 in A: Nothing.
  pub volume_0 : Computed (volume_write 0) blank_read None false (0 ∷ 1 ∷ 0 ∷ 1 ∷ 0 ∷ 2 ∷ 1 ∷ 0 ∷ 0 ∷ 1 ∷ 0 ∷ 1 ∷ []) old_records
  -- The header fails its checksum, and A of generation 1 has no predecessor: InFlight.
  pub volume_8 : Computed (volume_write 8) (torn_header 0) (Some (0, SlotIndex.B)) false (0 ∷ 1 ∷ 0 ∷ 3 ∷ 0 ∷ 2 ∷ 1 ∷ 0 ∷ 0 ∷ 1 ∷ 0 ∷ 1 ∷ []) old_records
  pub volume_11 : Computed (volume_write 11) (torn_header 0x000c_0bb0) (Some (0, SlotIndex.B)) false (0 ∷ 1 ∷ 0 ∷ 3 ∷ 0 ∷ 2 ∷ 1 ∷ 0 ∷ 0 ∷ 1 ∷ 0 ∷ 1 ∷ []) old_records
  pub volume_64 : Computed (volume_write 64) (torn_header 0x880c_0bb0) (Some (0, SlotIndex.B)) false (0 ∷ 1 ∷ 0 ∷ 3 ∷ 0 ∷ 2 ∷ 1 ∷ 0 ∷ 0 ∷ 1 ∷ 0 ∷ 1 ∷ []) old_records
  -- The payload fails its checksum, generation, previous checksum and number follow on: InFlight.
  pub volume_128 : Computed (volume_write 128) torn_volume (Some (0, SlotIndex.B)) false (0 ∷ 1 ∷ 0 ∷ 3 ∷ 0 ∷ 2 ∷ 1 ∷ 0 ∷ 0 ∷ 1 ∷ 0 ∷ 1 ∷ []) old_records
  pub volume_191 : Computed (volume_write 191) torn_volume (Some (0, SlotIndex.B)) false (0 ∷ 1 ∷ 0 ∷ 3 ∷ 0 ∷ 2 ∷ 1 ∷ 0 ∷ 0 ∷ 1 ∷ 0 ∷ 1 ∷ []) old_records
  -- The new slot is Valid and newer: Winner. Its mark is handed to the judge and counts.
  pub volume_192 : Computed (volume_write 192) marked_read None true (0 ∷ 2 ∷ 1 ∷ 0 ∷ 0 ∷ 2 ∷ 1 ∷ 0 ∷ 0 ∷ 1 ∷ 0 ∷ 1 ∷ []) new_volume_records

-- ---- the closed store is opened: the volume record is written to slot A of pair 0

abbrev pub volume_read : SlotRead
volume_read = valid_read 1 1 0x1d15_7c74 0 64

abbrev pub torn_opening : SlotRead
torn_opening = torn_payload 3 6 0x9172_d3ee 0x880c_0bb0

abbrev pub reopened_read : SlotRead
reopened_read = valid_read 3 6 0x9172_d3ee 0x880c_0bb0 64

pub record OpeningCuts : Type 0 where
  -- The old slot is Valid and older: Nothing. The mark of before is handed to the judge and counts.
  pub opening_0 : Computed (opening_write 0) volume_read None true (0 ∷ 2 ∷ 1 ∷ 0 ∷ 0 ∷ 2 ∷ 1 ∷ 0 ∷ 0 ∷ 1 ∷ 0 ∷ 1 ∷ []) new_volume_records
  pub opening_8 : Computed (opening_write 8) volume_read None true (0 ∷ 2 ∷ 1 ∷ 0 ∷ 0 ∷ 2 ∷ 1 ∷ 0 ∷ 0 ∷ 1 ∷ 0 ∷ 1 ∷ []) new_volume_records
  -- The header fails its checksum, and the stored one, of three new bytes and one old, is not B's previous one: InFlight. The mark of before
  -- is handed to the judge, and does not count beside it.
  pub opening_11 : Computed (opening_write 11) (torn_header 0x1d72_d3ee) (Some (0, SlotIndex.A)) false (0 ∷ 2 ∷ 3 ∷ 0 ∷ 0 ∷ 2 ∷ 1 ∷ 0 ∷ 0 ∷ 1 ∷ 0 ∷ 1 ∷ []) new_volume_records
  -- The stored one is the new one: InFlight.
  pub opening_64 : Computed (opening_write 64) (torn_header 0x9172_d3ee) (Some (0, SlotIndex.A)) false (0 ∷ 2 ∷ 3 ∷ 0 ∷ 0 ∷ 2 ∷ 1 ∷ 0 ∷ 0 ∷ 1 ∷ 0 ∷ 1 ∷ []) new_volume_records
  -- The payload fails its checksum, generation, previous checksum and number follow on: InFlight.
  pub opening_128 : Computed (opening_write 128) torn_opening (Some (0, SlotIndex.A)) false (0 ∷ 2 ∷ 3 ∷ 0 ∷ 0 ∷ 2 ∷ 1 ∷ 0 ∷ 0 ∷ 1 ∷ 0 ∷ 1 ∷ []) new_volume_records
  pub opening_136 : Computed (opening_write 136) torn_opening (Some (0, SlotIndex.A)) false (0 ∷ 2 ∷ 3 ∷ 0 ∷ 0 ∷ 2 ∷ 1 ∷ 0 ∷ 0 ∷ 1 ∷ 0 ∷ 1 ∷ []) new_volume_records
  -- The new slot is Valid and newer: Winner. Its mark, which is not set, is handed to the judge.
  pub opening_137 : Computed (opening_write 137) reopened_read None false (0 ∷ 1 ∷ 0 ∷ 1 ∷ 0 ∷ 2 ∷ 1 ∷ 0 ∷ 0 ∷ 1 ∷ 0 ∷ 1 ∷ []) reopened_records
  pub opening_192 : Computed (opening_write 192) reopened_read None false (0 ∷ 1 ∷ 0 ∷ 1 ∷ 0 ∷ 2 ∷ 1 ∷ 0 ∷ 0 ∷ 1 ∷ 0 ∷ 1 ∷ []) reopened_records

-- What the theorem leaves out: one to six bytes over the Blank slot are a broken magic, which the judge calls damage.
abbrev pub damaged_volume : List ℕ
damaged_volume = 1 ∷ 1 ∷ 0 ∷ 4 ∷ 0 ∷ 2 ∷ 1 ∷ 0 ∷ 0 ∷ 1 ∷ 0 ∷ 1 ∷ []

abbrev pub MagicCuts : Type 0
MagicCuts =
    Every (λ (k : ℕ). Computed (volume_write k) bad_magic None false damaged_volume old_records) (1 ∷ 2 ∷ 3 ∷ 4 ∷ 5 ∷ 6 ∷ [])

-- ---- pages are written to slots B

pub record OtherCuts : Type 0 where
  -- To pair 2 over a Blank slot: the payload fails its checksum, generation and previous checksum follow on, and the number those of its
  -- operator: InFlight.
  pub second_140 : Computed (second_write 140) (torn_payload 2 4 0x1916_772d 0x2c8c_2a3c) (Some (2, SlotIndex.B)) false (0 ∷ 1 ∷ 0 ∷ 1 ∷ 0 ∷ 2 ∷ 1 ∷ 0 ∷ 0 ∷ 1 ∷ 0 ∷ 3 ∷ []) old_records
  -- To pair 1 over generation 2, beside generation 3 in A. The header fails its checksum, and the stored one is A's previous one:
  -- OlderDamaged.
  pub later_64 : Computed (later_write 64) (torn_header 0xe83c_e718) None false (0 ∷ 1 ∷ 0 ∷ 1 ∷ 0 ∷ 1 ∷ 0 ∷ 2 ∷ 0 ∷ 1 ∷ 0 ∷ 1 ∷ []) new_page_records
  -- The payload fails its checksum: InFlight.
  pub later_133 : Computed (later_write 133) (torn_payload 4 6 0xe83c_e718 0xd61e_00d0) (Some (1, SlotIndex.B)) false (0 ∷ 1 ∷ 0 ∷ 1 ∷ 0 ∷ 1 ∷ 0 ∷ 3 ∷ 0 ∷ 1 ∷ 0 ∷ 1 ∷ []) new_page_records

-- ---- a page of four entries is written by sectors, to slot A of pair 1

abbrev pub long_old_records : List (List ℕ)
long_old_records = volume_record false ∷ long_record 0x2_4000 4 ∷ page_record 1 0 ∷ []

abbrev pub long_new_records : List (List ℕ)
long_new_records = volume_record false ∷ long_record 0x2_8000 5 ∷ page_record 1 0 ∷ []

pub record SectorCuts : Type 0 where
  -- The old slot is Valid and older: Nothing.
  pub sectors_none : Computed (long_write neither) (valid_read 1 2 0x3b80_d549 0 408) None false (0 ∷ 1 ∷ 0 ∷ 1 ∷ 0 ∷ 2 ∷ 1 ∷ 0 ∷ 0 ∷ 1 ∷ 0 ∷ 1 ∷ []) long_old_records
  -- The payload fails its checksum under the new header, generation, previous checksum and number follow on: InFlight.
  pub sectors_first : Computed (long_write the_first) (torn_payload 3 5 0x4d45_7736 0xd7d6_5030) (Some (1, SlotIndex.A)) false (0 ∷ 1 ∷ 0 ∷ 1 ∷ 0 ∷ 2 ∷ 3 ∷ 0 ∷ 0 ∷ 1 ∷ 0 ∷ 1 ∷ []) long_old_records
  -- It fails under the old header, whose generation is below the winner's: OlderDamaged, and not healed.
  pub sectors_second : Computed (long_write the_second) (torn_payload 1 2 0x3b80_d549 0) None false (0 ∷ 1 ∷ 0 ∷ 1 ∷ 0 ∷ 2 ∷ 2 ∷ 0 ∷ 0 ∷ 1 ∷ 0 ∷ 1 ∷ []) long_old_records
  -- The new slot is Valid and newer: Winner.
  pub sectors_both : Computed (long_write both) (valid_read 3 5 0x4d45_7736 0xd7d6_5030 408) None false (0 ∷ 1 ∷ 0 ∷ 1 ∷ 0 ∷ 1 ∷ 0 ∷ 1 ∷ 0 ∷ 1 ∷ 0 ∷ 1 ∷ []) long_new_records

-- The same write in ascending order, cut in its second sector.
pub record LongCuts : Type 0 where
  -- The payload fails its checksum, generation, previous checksum and number follow on: InFlight.
  pub long_528 : Computed (long_write_in_order 528) (torn_payload 3 5 0x4d45_7736 0xd7d6_5030) (Some (1, SlotIndex.A)) false (0 ∷ 1 ∷ 0 ∷ 1 ∷ 0 ∷ 2 ∷ 3 ∷ 0 ∷ 0 ∷ 1 ∷ 0 ∷ 1 ∷ []) long_old_records
  -- The new slot is Valid and newer: Winner.
  pub long_529 : Computed (long_write_in_order 529) (valid_read 3 5 0x4d45_7736 0xd7d6_5030 408) None false (0 ∷ 1 ∷ 0 ∷ 1 ∷ 0 ∷ 1 ∷ 0 ∷ 1 ∷ 0 ∷ 1 ∷ 0 ∷ 1 ∷ []) long_new_records
  pub long_1024 : Computed (long_write_in_order 1024) (valid_read 3 5 0x4d45_7736 0xd7d6_5030 408) None false (0 ∷ 1 ∷ 0 ∷ 1 ∷ 0 ∷ 1 ∷ 0 ∷ 1 ∷ 0 ∷ 1 ∷ 0 ∷ 1 ∷ []) long_new_records
