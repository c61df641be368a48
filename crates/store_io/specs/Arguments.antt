-- What the numbers of a C host stand for (docs/FORMAT.md, "The C interface"): the volume id is two u64s, its first eight bytes in the
-- first; any index but 0 is B, any `numbered` or clean mark but 0 is yes.
use Rattle.std.specs.Prelude.{Bool, false, not, List, ◌++◌, ℕ, ◌==◌, if◌then◌else◌, unwrap_or}
use Rattle.std.specs.Int.{w64, to_le_bytes}
use Rattle.slot.specs.declared.slot.SlotIndex.{SlotIndex}
use Rattle.slot.specs.declared.slot.SlotFields.{SlotFields}
use Rattle.slot.specs.declared.slot.Expect.{Expect}
use Rattle.slot.specs.declared.slot.SlotInfo.{SlotInfo}
use Rattle.slot.specs.declared.slot.SlotStatus.{SlotStatus}
use Rattle.slot.specs.Numbers.{status_of}
use Rattle.meta.specs.declared.meta.VolumeMeta.{VolumeMeta}
use Rattle.meta.specs.declared.meta2.VolumeMeta2.{VolumeMeta2}
use Rattle.meta.specs.declared.meta2.PageHeader.{PageHeader}
use Rattle.meta.specs.declared.meta2.RawEntry.{RawEntry}
use Rattle.meta.specs.declared.meta2.EntryLimits.{EntryLimits}

unfoldable pub volume_id : ℕ → ℕ → List ℕ
volume_id volume0 volume1 = to_le_bytes w64 volume0 ++ to_le_bytes w64 volume1

abbrev pub index_of : ℕ → SlotIndex
index_of index = if index == 0 then SlotIndex.A else SlotIndex.B

abbrev pub is_yes : ℕ → Bool
is_yes n = not (n == 0)

-- ---- a slot

-- What a slot is read with.
abbrev pub expect_of : ℕ → ℕ → ℕ → ℕ → ℕ → ℕ → ℕ → ℕ → Expect
expect_of volume0 volume1 object offset index log2 format numbered =
    record {
      volume_uuid = volume_id volume0 volume1;
      object_id = object;
      slot_offset = offset;
      slot_index = index_of index;
      log2_slot_size = log2;
      format_major = format;
      numbered = is_yes numbered;
    }

-- What is written into a slot's header.
abbrev pub fields_of : ℕ → ℕ → ℕ → ℕ → ℕ → ℕ → ℕ → ℕ → ℕ → ℕ → ℕ → ℕ → SlotFields
fields_of volume0 volume1 object generation owner offset index log2 prev format number compat =
    record {
      volume_uuid = volume_id volume0 volume1;
      object_id = object;
      generation = generation;
      owner_generation = owner;
      slot_offset = offset;
      slot_index = index_of index;
      log2_slot_size = log2;
      prev_header_crc32c = prev;
      format_major = format;
      meta_seq = number;
      compat_flags = compat;
    }

-- What `decide` looks at of a valid slot.
abbrev pub valid_of : ℕ → ℕ → ℕ → SlotInfo
valid_of generation own prev =
    record {
      generation = generation;
      owner_generation = 0;
      header_crc32c = own;
      prev_header_crc32c = prev;
      ro_compat_flags = 0;
      compat_flags = 0;
      meta_seq = 0;
      payload_start = 0;
      payload_len = 0;
    }

-- The status with a number from 0 to 11; from 12 on a valid slot with these facts.
abbrev pub status_or_valid : ℕ → ℕ → ℕ → ℕ → SlotStatus
status_or_valid c generation own prev = unwrap_or (status_of c (valid_of generation own prev)) (SlotStatus.Valid (valid_of generation own prev))

-- ---- metadata

abbrev pub base_of : ℕ → ℕ → ℕ → ℕ → ℕ → ℕ → ℕ → VolumeMeta
base_of block slot device owner table created features =
    record {
      log2_block_size = block;
      log2_table_slot_size = slot;
      device_index = device;
      owner_generation = owner;
      table_offset = table;
      created_unix_s = created;
      features = features;
    }

abbrev pub volume_of : VolumeMeta → ℕ → ℕ → ℕ → ℕ → VolumeMeta2
volume_of base pages entries clean flags =
    record { base = base; table_pages = pages; entries_per_page = entries; clean_close = is_yes clean; flags = flags }

-- A record with a table's geometry, zeros elsewhere.
abbrev pub table_of : ℕ → ℕ → ℕ → VolumeMeta2
table_of block slot pages =
    record { base = base_of block slot 0 0 0 0 0; table_pages = pages; entries_per_page = 0; clean_close = false; flags = 0 }

abbrev pub page_of : ℕ → ℕ → ℕ → PageHeader
page_of index next count = record { page_index = index; next_seq = next; count = count }

abbrev pub raw_of : ℕ → ℕ → ℕ → ℕ → ℕ → List ℕ → ℕ → ℕ → ℕ → ℕ → ℕ → ℕ → ℕ → ℕ → ℕ → RawEntry
raw_of seq kind state flags compat name tag extents header_a header_b size capacity start end footprint =
    record {
      seq = seq;
      kind = kind;
      state = state;
      flags = flags;
      compat_flags = compat;
      name = name;
      tag = tag;
      extent_count = extents;
      reserved = 0;
      header_a = header_a;
      header_b = header_b;
      data_size = size;
      capacity = capacity;
      span_start = start;
      span_end = end;
      footprint_seq = footprint;
    }

abbrev pub limits_of : ℕ → ℕ → ℕ → ℕ → EntryLimits
limits_of log2 table file number = record { log2_block = log2; table_end = table; file_len = file; page_meta_seq = number }
