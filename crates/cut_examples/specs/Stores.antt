-- Four stores of three pairs, the volume record and two pages, the second one another operator's, in slots of 512 bytes and, for a page of
-- more than one sector, of 1,024 (docs/FORMAT.md, "The sound store and the cut"). The checksums that a slot names are written as numbers.
use Rattle.std.specs.Prelude.{Bool, true, false, List, [], ◌∷◌, ◌++◌, ℕ, ◌+◌, ◌*◌, ◌^◌, map, replicate}
use Rattle.slot.specs.Status.{index_number}
use Rattle.slot.specs.Write.{encode}
use Rattle.slot.specs.Laws.{expect_of}
use Rattle.slot.specs.declared.slot.SlotIndex.{SlotIndex}
use Rattle.slot.specs.declared.slot.SlotFields.{SlotFields}
use Rattle.slot.specs.declared.slot.Expect.{Expect}
use Rattle.judge.specs.declared.pairs.Version.{Version}
use Rattle.meta.specs.Volume.{volume_bytes}
use Rattle.meta.specs.Entry.{entry_bytes}
use Rattle.meta.specs.Page.{header_bytes, page_bytes}
use Rattle.meta.specs.declared.meta2.RawEntry.{RawEntry}
use Rattle.cut.specs.Store.{Volume, Page, Slot, Pair}

-- ---- records

-- The volume record of a store with two pages, with its owner generation and its clean mark.
abbrev pub volume_by : (owner : ℕ) → Bool → List ℕ
volume_by owner mark =
    volume_bytes
    (record {
      base =
          record {
            log2_block_size = 12;
            log2_table_slot_size = 12;
            device_index = 0;
            owner_generation = owner;
            table_offset = 8192;
            created_unix_s = 0;
            features = 0;
          };
      table_pages = 2;
      entries_per_page = 41;
      clean_close = mark;
      flags = 0;
    })

-- That of its first opening, with its clean mark, and that of the second one.
abbrev pub volume_record : Bool → List ℕ
volume_record mark = volume_by 1 mark

abbrev pub reopened_record : Bool → List ℕ
reopened_record mark = volume_by 2 mark

-- A page with no entry.
abbrev pub page_record : (index next : ℕ) → List ℕ
page_record index next = header_bytes (record { page_index = index; next_seq = next; count = 0 })

-- A slot region with this sequence number: its two header slots at the start of its span.
abbrev pub region : (seq letter start end footprint : ℕ) → RawEntry
region seq letter start end footprint =
    record {
      seq = seq;
      kind = 3;
      state = 1;
      flags = 0;
      compat_flags = 0;
      name = letter ∷ replicate 23 0;
      tag = 0;
      extent_count = 0;
      reserved = 0;
      header_a = start;
      header_b = start + 4096;
      data_size = 0;
      capacity = 0;
      span_start = start;
      span_end = end;
      footprint_seq = footprint;
    }

-- A page with four entries, 408 bytes. The end and the footprint number of the last one stand in its last 16 bytes, after the first 512 of
-- the slot.
abbrev pub long_record : (end footprint : ℕ) → List ℕ
long_record end footprint =
    page_bytes (record { page_index = 0; next_seq = 4; count = 4 })
    (map entry_bytes
    (region 0 97 0x1_0000 0x1_4000 1
    ∷ region 1 98 0x1_4000 0x1_8000 1
    ∷ region 2 99 0x1_8000 0x1_c000 1
    ∷ region 3 100 0x1_c000 end footprint
    ∷ []))

-- ---- slots

-- What a host left in the fields of a frame that are not given: the largest numbers. NothingGiven, ChecksumGiven and NumbersGiven of the
-- judge's crate say which these are; the owner generation is one of them beside a torn payload as well.
abbrev pub rest : Version
rest =
    record {
      generation = 0xffff_ffff_ffff_ffff;
      meta_seq = 0xffff_ffff_ffff_ffff;
      header_crc32c = 0xffff_ffff;
      prev_header_crc32c = 0xffff_ffff;
      owner_generation = 0xffff_ffff_ffff_ffff;
    }

-- The slots of an object lie one after the other, and those of the next object of their size after them.
abbrev pub fields : (log2 object : ℕ) → SlotIndex → (generation prev number : ℕ) → SlotFields
fields log2 object index generation prev number =
    record {
      volume_uuid = replicate 16 7;
      object_id = object;
      generation = generation;
      owner_generation = 1;
      slot_offset = 2 ^ log2 * (2 * object + index_number index);
      slot_index = index;
      log2_slot_size = log2;
      prev_header_crc32c = prev;
      format_major = 2;
      meta_seq = number;
      compat_flags = 0;
    }

-- A slot is read with the identity and size that it is written with, in format 2 and numbered.
abbrev pub read_with : SlotFields → Expect
read_with f = expect_of f true

-- A slot of its size without a byte written.
abbrev pub zeros_for : SlotFields → List ℕ
zeros_for f = replicate (2 ^ f.log2_slot_size) 0

-- A slot as `encode` writes it.
abbrev pub written_slot : SlotFields → List ℕ → Slot
written_slot f payload = record { bytes = (encode f payload (zeros_for f)).0; expect = read_with f; rest = rest }

-- A Blank slot of 512 bytes: after its first 128 it holds anything.
abbrev pub blank_slot : (object : ℕ) → SlotIndex → Slot
blank_slot object index =
    record { bytes = replicate 128 0 ++ replicate 384 9; expect = read_with (fields 9 object index 0 0 0); rest = rest }

-- ---- pairs

-- Pair 0: A of generation 1, B Blank.
abbrev pub volume_fields : SlotFields
volume_fields = fields 9 0 SlotIndex.A 1 0 1

abbrev pub volume_pair : Pair
volume_pair = record { a = written_slot volume_fields (volume_record false); b = blank_slot 0 SlotIndex.B; decoder = Volume; operator = 0 }

-- Pair 0 once the store was closed: B of generation 2, which names A's checksum, has the clean mark.
abbrev pub marked_fields : SlotFields
marked_fields = fields 9 0 SlotIndex.B 2 0x1d15_7c74 5

abbrev pub closed_volume : Pair
closed_volume =
    record {
      a = written_slot volume_fields (volume_record false);
      b = written_slot marked_fields (volume_record true);
      decoder = Volume;
      operator = 0;
    }

-- Pair 1: A of generation 1, B of generation 2, which names A's checksum.
abbrev pub older_fields : SlotFields
older_fields = fields 9 1 SlotIndex.A 1 0 2

abbrev pub newer_fields : SlotFields
newer_fields = fields 9 1 SlotIndex.B 2 0x588e_9174 4

abbrev pub first_page : Pair
first_page = record { a = written_slot older_fields (page_record 0 1); b = written_slot newer_fields (page_record 0 2); decoder = Page 0 41; operator = 0 }

-- Pair 2, of operator 1: A of generation 1, B Blank.
abbrev pub second_fields : SlotFields
second_fields = fields 9 2 SlotIndex.A 1 0 3

abbrev pub second_page : Pair
second_page = record { a = written_slot second_fields (page_record 1 0); b = blank_slot 2 SlotIndex.B; decoder = Page 1 41; operator = 1 }

-- Pair 1 once a write to its slot A stands whole: A of generation 3, which names B's checksum, and B of generation 2.
abbrev pub new_fields : SlotFields
new_fields = fields 9 1 SlotIndex.A 3 0xe83c_e718 5

abbrev pub later_page : Pair
later_page = record { a = written_slot new_fields (page_record 0 0x304); b = written_slot newer_fields (page_record 0 2); decoder = Page 0 41; operator = 0 }

-- A pair of slots of 1,024 bytes: A of generation 1, B of generation 2, which names A's checksum. Its pages have four entries.
abbrev pub long_older_fields : SlotFields
long_older_fields = fields 10 3 SlotIndex.A 1 0 2

abbrev pub long_newer_fields : SlotFields
long_newer_fields = fields 10 3 SlotIndex.B 2 0x3b80_d549 4

abbrev pub long_page : Pair
long_page =
    record {
      a = written_slot long_older_fields (long_record 0x2_0000 2);
      b = written_slot long_newer_fields (long_record 0x2_4000 4);
      decoder = Page 0 41;
      operator = 0;
    }

-- ---- the stores

abbrev pub first_store : List Pair
first_store = volume_pair ∷ first_page ∷ second_page ∷ []

-- The clean mark is set in this one, and in no other.
abbrev pub closed_store : List Pair
closed_store = closed_volume ∷ first_page ∷ second_page ∷ []

abbrev pub later_store : List Pair
later_store = volume_pair ∷ later_page ∷ second_page ∷ []

abbrev pub long_store : List Pair
long_store = volume_pair ∷ long_page ∷ second_page ∷ []
