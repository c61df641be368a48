-- The places of C's numbers (docs/FORMAT.md, "The C interface"), computed for records whose fields are all different.
use Rattle.std.specs.Prelude.{◌≡◌, true, false, ℕ, [], ◌∷◌, replicate, Option, Some, None, Err}
use Rattle.slot.specs.declared.slot.SlotIndex.{SlotIndex}
use Rattle.slot.specs.declared.slot.SlotInfo.{SlotInfo}
use Rattle.slot.specs.declared.slot.SlotStatus.{SlotStatus}
use Rattle.slot.specs.declared.slot.Expect.{Expect}
use Rattle.slot.specs.declared.slot.SlotFields.{SlotFields}
use Rattle.slot.specs.declared.slot.HeaderFacts.{HeaderFacts}
use Rattle.pair.specs.declared.pair.Winner.{Winner}
use Rattle.pair.specs.declared.pair.PairReport.{PairReport}
use Rattle.pair.specs.Winner.{read_pair}
use Rattle.meta.specs.declared.meta.MetaError.{MetaError}
use Rattle.meta.specs.declared.meta.RegionKind.{RegionKind}
use Rattle.meta.specs.declared.meta.RegionName.{RegionName}
use Rattle.meta.specs.declared.meta2.VolumeMeta2.{VolumeMeta2}
use Rattle.meta.specs.declared.meta2.RawEntry.{RawEntry}
use Rattle.meta.specs.declared.meta2.Entry2.{Entry2}
use Rattle.meta.specs.Page.{encode_entries}
use Rattle.store_io.specs.Arguments.{volume_id, index_of, is_yes, expect_of, fields_of, valid_of, status_or_valid, base_of, volume_of, table_of, page_of, raw_of, limits_of}
use Rattle.store_io.specs.Slots.{status_answer, facts_answer}
use Rattle.store_io.specs.Pairs.{report_bytes, decide_answer}
use Rattle.store_io.specs.Winners.{pair_of, winner_answer}
use Rattle.store_io.specs.Judging.{judgement_values}
use Rattle.store_io.specs.Metadata.{volume_values, page_values, name_or_zeros, raw_found, entry_found, both_or_zeros, span_values}

-- ---- what a number stands for

abbrev pub slot_read : Expect
slot_read = expect_of 1 2 3 4 0 6 7 8

abbrev pub slot_written : SlotFields
slot_written = fields_of 1 2 3 4 5 6 7 8 9 10 11 12

abbrev pub ArgumentPlaces : Type 0
ArgumentPlaces =
    (volume_id 258 3 ≡ 2 ∷ 1 ∷ 0 ∷ 0 ∷ 0 ∷ 0 ∷ 0 ∷ 0 ∷ 3 ∷ 0 ∷ 0 ∷ 0 ∷ 0 ∷ 0 ∷ 0 ∷ 0 ∷ [])
    × (index_of 0 ≡ SlotIndex.A)
    × (index_of 1 ≡ SlotIndex.B)
    × (index_of 2 ≡ SlotIndex.B)
    × (is_yes 0 ≡ false)
    × (is_yes 1 ≡ true)
    × (is_yes 2 ≡ true)
    × (slot_read.volume_uuid ≡ volume_id 1 2)
    × (slot_read.object_id ∷ slot_read.slot_offset ∷ slot_read.log2_slot_size ∷ slot_read.format_major ∷ [] ≡ 3 ∷ 4 ∷ 6 ∷ 7 ∷ [])
    × (slot_read.slot_index ≡ SlotIndex.A)
    × (slot_read.numbered ≡ true)
    × (slot_written.volume_uuid ≡ volume_id 1 2)
    × (slot_written.object_id ∷ slot_written.generation ∷ slot_written.owner_generation ∷ slot_written.slot_offset ∷ [] ≡ 3 ∷ 4 ∷ 5 ∷ 6 ∷ [])
    × (slot_written.log2_slot_size ∷ slot_written.prev_header_crc32c ∷ slot_written.format_major ∷ slot_written.meta_seq ∷ slot_written.compat_flags ∷ [] ≡ 8 ∷ 9 ∷ 10 ∷ 11 ∷ 12 ∷ [])
    × (slot_written.slot_index ≡ SlotIndex.B)
    × ((valid_of 1 2 3).generation ∷ (valid_of 1 2 3).header_crc32c ∷ (valid_of 1 2 3).prev_header_crc32c ∷ [] ≡ 1 ∷ 2 ∷ 3 ∷ [])
    × (status_or_valid 11 1 2 3 ≡ SlotStatus.BadPayloadCrc)
    × (status_or_valid 12 1 2 3 ≡ SlotStatus.Valid (valid_of 1 2 3))
    × (status_or_valid 13 1 2 3 ≡ SlotStatus.Valid (valid_of 1 2 3))
    × (pair_of (9 ∷ []) (10 ∷ []) 1 2 3 4 5 6 7 8 ≡ read_pair (9 ∷ []) (expect_of 1 2 3 4 0 6 7 8) (10 ∷ []) (expect_of 1 2 3 5 1 6 7 8))

-- ---- slots and pairs

abbrev pub known : SlotInfo
known =
    record {
      generation = 1;
      owner_generation = 2;
      header_crc32c = 3;
      prev_header_crc32c = 4;
      ro_compat_flags = 5;
      compat_flags = 6;
      meta_seq = 7;
      payload_start = 8;
      payload_len = 9;
    }

abbrev pub shown : HeaderFacts
shown = record { stored_header_crc32c = 1; numbered = Some (record { generation = 2; meta_seq = 3; prev_header_crc32c = 4 }) }

abbrev pub stored : HeaderFacts
stored = record { stored_header_crc32c = 1; numbered = None }

-- A status and its values; facts and theirs: stored checksum, generation, number, previous checksum.
abbrev pub SlotPlaces : Type 0
SlotPlaces =
    (status_answer (SlotStatus.Valid known) ≡ (12, 1 ∷ 2 ∷ 3 ∷ 4 ∷ 5 ∷ 6 ∷ 7 ∷ 8 ∷ 9 ∷ []))
    × (status_answer (SlotStatus.UnsupportedVersion 3) ≡ (5, 3 ∷ 0 ∷ 0 ∷ 0 ∷ 0 ∷ 0 ∷ 0 ∷ 0 ∷ 0 ∷ []))
    × (status_answer (SlotStatus.Incompatible 3) ≡ (6, 3 ∷ 0 ∷ 0 ∷ 0 ∷ 0 ∷ 0 ∷ 0 ∷ 0 ∷ 0 ∷ []))
    × (status_answer SlotStatus.Blank ≡ (2, 0 ∷ 0 ∷ 0 ∷ 0 ∷ 0 ∷ 0 ∷ 0 ∷ 0 ∷ 0 ∷ []))
    × (facts_answer (Some shown) ≡ (2, 1 ∷ 2 ∷ 3 ∷ 4 ∷ []))
    × (facts_answer (Some stored) ≡ (1, 1 ∷ 0 ∷ 0 ∷ 0 ∷ []))
    × (facts_answer None ≡ (0, 0 ∷ 0 ∷ 0 ∷ 0 ∷ []))

abbrev pub decided : PairReport
decided = record { a = SlotStatus.Blank; b = SlotStatus.Valid known; winner = Winner.Unconfirmed SlotIndex.B; generation_gap = true; chain_break = false }

abbrev pub valid : ℕ → ℕ → ℕ → Option SlotStatus
valid generation own prev = Some (SlotStatus.Valid (valid_of generation own prev))

-- Of a pair: the winner's standing and slot, gap, chain break, next write; 10 where a number is no status, and the report is kept; with
-- its payload both values, the seven numbers of the report, and start and length.
abbrev pub PairPlaces : Type 0
PairPlaces =
    (report_bytes decided ≡ 1 ∷ 2 ∷ 1 ∷ 0 ∷ 1 ∷ [])
    × (decide_answer [] (valid 2 7 8) (valid 1 8 0) ≡ (0, 0 ∷ 1 ∷ 0 ∷ 0 ∷ 2 ∷ []))
    × (decide_answer [] (valid 1 8 0) (valid 2 7 9) ≡ (0, 0 ∷ 2 ∷ 0 ∷ 1 ∷ 1 ∷ []))
    × (decide_answer (9 ∷ []) None (Some SlotStatus.Blank) ≡ (10, 9 ∷ []))
    × (decide_answer (9 ∷ []) (Some SlotStatus.Blank) None ≡ (10, 9 ∷ []))
    × (winner_answer 512 512 decided ≡ (2, 0 ∷ 0 ∷ 0 ∷ 0 ∷ 0 ∷ 0 ∷ 0 ∷ 0 ∷ 0 ∷ [], 1 ∷ 2 ∷ 3 ∷ 4 ∷ 5 ∷ 6 ∷ 7 ∷ 8 ∷ 9 ∷ [], 2 ∷ 12 ∷ 1 ∷ 2 ∷ 1 ∷ 0 ∷ 1 ∷ [], 8, 9))

-- The slot to heal, its pair, writable, clean, refused, whether owners differ.
abbrev pub JudgementPlaces : Type 0
JudgementPlaces =
    (judgement_values (record { heal = Some (3, SlotIndex.B); writable = true; clean = false; refused = false; owners_differ = false }) ≡ 2 ∷ 3 ∷ 1 ∷ 0 ∷ 0 ∷ 0 ∷ [])
    × (judgement_values (record { heal = None; writable = false; clean = true; refused = false; owners_differ = false }) ≡ 0 ∷ 0 ∷ 0 ∷ 1 ∷ 0 ∷ 0 ∷ [])
    × (judgement_values (record { heal = None; writable = false; clean = false; refused = true; owners_differ = false }) ≡ 0 ∷ 0 ∷ 0 ∷ 0 ∷ 1 ∷ 0 ∷ [])
    × (judgement_values (record { heal = None; writable = false; clean = false; refused = false; owners_differ = true }) ≡ 0 ∷ 0 ∷ 0 ∷ 0 ∷ 0 ∷ 1 ∷ [])

-- ---- metadata

abbrev pub volume : VolumeMeta2
volume = volume_of (base_of 2 3 4 5 6 7 8) 9 10 1 11

abbrev pub table : VolumeMeta2
table = table_of 1 2 3

-- The volume record, and the one that has a table's geometry alone; a page, where its entries start, and how long they are; 11 for a rest.
abbrev pub RecordPlaces : Type 0
RecordPlaces =
    (volume_values volume ≡ 2 ∷ 3 ∷ 4 ∷ 5 ∷ 6 ∷ 7 ∷ 8 ∷ 9 ∷ 10 ∷ 1 ∷ 11 ∷ [])
    × (volume.base.log2_block_size ∷ volume.base.log2_table_slot_size ∷ volume.base.device_index ∷ volume.base.owner_generation ∷ [] ≡ 2 ∷ 3 ∷ 4 ∷ 5 ∷ [])
    × (volume.base.table_offset ∷ volume.base.created_unix_s ∷ volume.base.features ∷ [] ≡ 6 ∷ 7 ∷ 8 ∷ [])
    × (volume.table_pages ∷ volume.entries_per_page ∷ volume.flags ∷ [] ≡ 9 ∷ 10 ∷ 11 ∷ [])
    × (table.base.log2_block_size ∷ table.base.log2_table_slot_size ∷ table.table_pages ∷ [] ≡ 1 ∷ 2 ∷ 3 ∷ [])
    × (page_values (page_of 5 6 2) ≡ 5 ∷ 6 ∷ 2 ∷ 24 ∷ 192 ∷ [])
    × (encode_entries (page_of 0 1 1) (replicate 95 0) (7 ∷ []) ≡ (7 ∷ [], Err MetaError.Length))

abbrev pub entry : RawEntry
entry = raw_of 1 2 3 4 5 (97 ∷ []) 6 7 8 9 10 11 12 13 14

abbrev pub name : RegionName
name = record { bytes = 97 ∷ 0 ∷ []; len = 1 }

abbrev pub accepted : Entry2
accepted =
    record {
      seq = 1;
      kind = RegionKind.Slot;
      flags = 4;
      compat_flags = 5;
      name = name;
      tag = 6;
      extent_count = 7;
      header_a = 8;
      header_b = 9;
      data_size = 10;
      capacity = 11;
      span_start = 12;
      span_end = 13;
      footprint_seq = 14;
    }

-- An entry as stored, and an accepted one: the numbers in the layout's order, and the name; zeros for what does not decode.
abbrev pub EntryPlaces : Type 0
EntryPlaces =
    (raw_found entry ≡ (1 ∷ 2 ∷ 3 ∷ 4 ∷ 5 ∷ 6 ∷ 7 ∷ 0 ∷ 8 ∷ 9 ∷ 10 ∷ 11 ∷ 12 ∷ 13 ∷ 14 ∷ [], 97 ∷ []))
    × (entry.seq ∷ entry.kind ∷ entry.state ∷ entry.flags ∷ entry.compat_flags ∷ entry.tag ∷ entry.extent_count ∷ [] ≡ 1 ∷ 2 ∷ 3 ∷ 4 ∷ 5 ∷ 6 ∷ 7 ∷ [])
    × (entry.header_a ∷ entry.header_b ∷ entry.data_size ∷ entry.capacity ∷ [] ≡ 8 ∷ 9 ∷ 10 ∷ 11 ∷ [])
    × (entry.span_start ∷ entry.span_end ∷ entry.footprint_seq ∷ [] ≡ 12 ∷ 13 ∷ 14 ∷ [])
    × (name_or_zeros (Some name) ≡ (97 ∷ 0 ∷ [], 1))
    × (name_or_zeros None ≡ (replicate 24 0, 0))
    × (both_or_zeros (Some (name, RegionKind.Slot)) ≡ (3, 97 ∷ 0 ∷ [], 1))
    × (both_or_zeros None ≡ (0, replicate 24 0, 0))
    × (span_values (Some (1, 2)) ≡ 1 ∷ 2 ∷ [])
    × (span_values None ≡ 0 ∷ 0 ∷ [])
    × (entry_found accepted ≡ (1 ∷ 3 ∷ 4 ∷ 5 ∷ 6 ∷ 7 ∷ 8 ∷ 9 ∷ 10 ∷ 11 ∷ 12 ∷ 13 ∷ 14 ∷ [], 97 ∷ 0 ∷ [], 1))
    × ((limits_of 1 2 3 4).log2_block ∷ (limits_of 1 2 3 4).table_end ∷ (limits_of 1 2 3 4).file_len ∷ (limits_of 1 2 3 4).page_meta_seq ∷ [] ≡ 1 ∷ 2 ∷ 3 ∷ 4 ∷ [])
