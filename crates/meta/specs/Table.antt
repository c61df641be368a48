-- The numbers of all refusals and the places of all fields of metadata, spelled out on examples (docs/FORMAT.md, "The volume record",
-- "Pages", "Entries" and "Refusals"): a definition that is changed together with its code is still told by these.
use Rattle.std.specs.Prelude.{◌≡◌, ◌<◌, true, List, [], ◌∷◌, ◌++◌, ℕ, length, take, map, replicate, Some, None, Result, Ok, Err}
use Rattle.codec.specs.Bytes.{put}
use Rattle.meta.specs.declared.meta.Field.{Field}
use Rattle.meta.specs.declared.meta.MetaError.{MetaError}
use Rattle.meta.specs.declared.meta.RegionKind.{RegionKind}
use Rattle.meta.specs.declared.meta.VolumeMeta.{VolumeMeta}
use Rattle.meta.specs.declared.meta2.VolumeMeta2.{VolumeMeta2}
use Rattle.meta.specs.declared.meta2.RawEntry.{RawEntry}
use Rattle.meta.specs.declared.meta2.EntryLimits.{EntryLimits}
use Rattle.meta.specs.declared.meta2.PageHeader.{PageHeader}
use Rattle.meta.specs.Error.{number, ◌>>=◌}
use Rattle.meta.specs.Kind.{kind_of, kind_number}
use Rattle.meta.specs.Name.{named, padded}
use Rattle.meta.specs.Base.{decode_base, base_bytes, encode_base}
use Rattle.meta.specs.Volume.{decode_volume, volume_bytes, encode_volume, table_end, check_file_len}
use Rattle.meta.specs.Entry.{read_entry, entry_bytes, write_entry, reserved_span}
use Rattle.meta.specs.Check.{check_entry}
use Rattle.meta.specs.Page.{decode_page, entries, header_bytes, encode_page}

-- The number of a refusal, 0 for none.
abbrev pub answer : {A : Type 0} → Result A MetaError → ℕ
answer (Ok x) = 0
answer (Err error) = number error

abbrev pub field : Field → MetaError
field f = MetaError.Field f

-- ---- the numbers

abbrev pub errors : List MetaError
errors =
    MetaError.Length ∷ MetaError.Duplicate ∷ MetaError.Unaligned
    ∷ field Field.Features ∷ field Field.Flags ∷ field Field.Reserved ∷ field Field.Log2BlockSize ∷ field Field.Log2TableSlotSize
    ∷ field Field.TableOffset ∷ field Field.TablePages ∷ field Field.EntriesPerPage ∷ field Field.CleanClose ∷ field Field.PageIndex
    ∷ field Field.Count ∷ field Field.Seq ∷ field Field.Log2Block ∷ field Field.Kind ∷ field Field.State ∷ field Field.Name
    ∷ field Field.DataSize ∷ field Field.Span ∷ field Field.Capacity ∷ field Field.Header ∷ field Field.FootprintSeq ∷ field Field.Slot
    ∷ field Field.ExtentCount ∷ []

-- ---- a volume record, its numbers all different

abbrev pub base : List ℕ
base =
    12 ∷ 14 ∷ 3 ∷ 2 ∷ 0 ∷ 0 ∷ 0 ∷ 0
    ∷ 11 ∷ 0 ∷ 0 ∷ 0 ∷ 0 ∷ 0 ∷ 0 ∷ 1
    ∷ 0 ∷ 0x20 ∷ 0 ∷ 0 ∷ 0 ∷ 0 ∷ 0 ∷ 0
    ∷ 24 ∷ 0 ∷ 0 ∷ 0 ∷ 0 ∷ 0 ∷ 0 ∷ 2
    ∷ replicate 16 0

abbrev pub volume : List ℕ
volume = base ++ 5 ∷ 0 ∷ 1 ∷ 0 ∷ 169 ∷ 0 ∷ 1 ∷ 0 ∷ replicate 8 0

abbrev pub base_record : VolumeMeta
base_record =
    record {
      log2_block_size = 12;
      log2_table_slot_size = 14;
      device_index = 0x203;
      owner_generation = 0x0100_0000_0000_000B;
      table_offset = 8192;
      created_unix_s = 0x0200_0000_0000_0018;
      features = 0;
    }

abbrev pub volume_record : VolumeMeta2
volume_record = record { base = base_record; table_pages = 0x1_0005; entries_per_page = 169; clean_close = true; flags = 0 }

-- The answer for the record with a byte changed, and for one with two.
abbrev pub volume_with : ℕ → ℕ → ℕ
volume_with i b = answer (decode_volume (put volume i (b ∷ [])))

abbrev pub volume_with_two : ℕ → ℕ → ℕ
volume_with_two i j = answer (decode_volume (put (put volume i (1 ∷ [])) j (1 ∷ [])))

abbrev pub base_with : ℕ → ℕ → ℕ
base_with i b = answer (decode_base (put base i (b ∷ [])))

-- Both log2 12, one page.
abbrev pub small : VolumeMeta2
small = record volume_record { base = record base_record { log2_table_slot_size = 12 }; table_pages = 1 }

-- ---- an entry, its numbers all different

abbrev pub entry : List ℕ
entry =
    1 ∷ 0 ∷ 0 ∷ 0 ∷ 2 ∷ 1 ∷ 3 ∷ 0x77
    ∷ 0x61 ∷ 0x62 ∷ 0x63 ∷ replicate 21 0
    ++ 4 ∷ 0 ∷ 0 ∷ 1 ∷ 6 ∷ 2 ∷ 0 ∷ 0
    ∷ 0 ∷ 0x60 ∷ 0 ∷ 0 ∷ 0 ∷ 0 ∷ 0 ∷ 0
    ∷ 0 ∷ 0x80 ∷ 0 ∷ 0 ∷ 0 ∷ 0 ∷ 0 ∷ 0
    ∷ 0 ∷ 0x10 ∷ 0 ∷ 0 ∷ 0 ∷ 0 ∷ 0 ∷ 0
    ∷ 0 ∷ 0x30 ∷ 0 ∷ 0 ∷ 0 ∷ 0 ∷ 0 ∷ 0
    ∷ 0 ∷ 0x50 ∷ 0 ∷ 0 ∷ 0 ∷ 0 ∷ 0 ∷ 0
    ∷ 0 ∷ 0 ∷ 1 ∷ 0 ∷ 0 ∷ 0 ∷ 0 ∷ 0
    ∷ 7 ∷ 0 ∷ 0 ∷ 0 ∷ 0 ∷ 0 ∷ 0 ∷ 0 ∷ []

abbrev pub entry_record : RawEntry
entry_record =
    record {
      seq = 1;
      kind = 2;
      state = 1;
      flags = 3;
      compat_flags = 0x77;
      name = 0x61 ∷ 0x62 ∷ 0x63 ∷ replicate 21 0;
      tag = 0x0100_0004;
      extent_count = 0x206;
      reserved = 0;
      header_a = 0x6000;
      header_b = 0x8000;
      data_size = 0x1000;
      capacity = 0x3000;
      span_start = 0x5000;
      span_end = 0x1_0000;
      footprint_seq = 7;
    }

abbrev pub limits : EntryLimits
limits = record { log2_block = 12; table_end = 0x5000; file_len = 0x2_0000; page_meta_seq = 9 }

abbrev pub checked : List ℕ → ℕ
checked s = answer (read_entry s >>= λ e. check_entry e limits)

-- The answer for the entry with bytes changed, in one place and in two.
abbrev pub entry_with : ℕ → List ℕ → ℕ
entry_with i bs = checked (put entry i bs)

abbrev pub entry_with_two : ℕ → List ℕ → ℕ → List ℕ → ℕ
entry_with_two i bs j cs = checked (put (put entry i bs) j cs)

abbrev pub at_log2 : ℕ → ℕ
at_log2 log2 = answer (check_entry entry_record (record limits { log2_block = log2 }))

-- ---- a page of two entries

abbrev pub header : PageHeader
header = record { page_index = 0x0100_0003; next_seq = 0x0200_0009; count = 2 }

abbrev pub header_list : List ℕ
header_list = 3 ∷ 0 ∷ 0 ∷ 1 ∷ 9 ∷ 0 ∷ 0 ∷ 2 ∷ 2 ∷ 0 ∷ replicate 14 0

abbrev pub second : List ℕ
second = put entry 0 (2 ∷ [])

abbrev pub page : List ℕ
page = header_list ++ entry ++ second

abbrev pub page_with : ℕ → ℕ → ℕ
page_with i b = answer (decode_page (put page i (b ∷ [])) 0x0100_0003 41)

-- ---- the table

pub record Table : Type 0 where
  pub numbers : map number errors
      ≡ 11 ∷ 12 ∷ 13 ∷ 20 ∷ 21 ∷ 22 ∷ 23 ∷ 24 ∷ 25 ∷ 26 ∷ 27 ∷ 28 ∷ 29 ∷ 30 ∷ 31 ∷ 32 ∷ 33 ∷ 34 ∷ 35 ∷ 36 ∷ 37 ∷ 38 ∷ 39 ∷ 40 ∷ 41 ∷ 42 ∷ []
  pub kinds : map kind_of (0 ∷ 1 ∷ 2 ∷ 3 ∷ 4 ∷ []) ≡ None ∷ Some RegionKind.Append ∷ Some RegionKind.Page ∷ Some RegionKind.Slot ∷ None ∷ []
  pub kind_bytes : map kind_number (RegionKind.Append ∷ RegionKind.Page ∷ RegionKind.Slot ∷ []) ≡ 1 ∷ 2 ∷ 3 ∷ []
  -- The volume record is read and written so,
  pub volume_read : decode_volume volume ≡ Ok volume_record
  pub volume_written : volume_bytes volume_record ≡ volume
  pub base_read : decode_base base ≡ Ok base_record
  pub base_written : base_bytes base_record ≡ base
  -- and refused with these: its length; features and flags, before all else; zeros at 4 and 40; sizes; the offset; zeros at 55 and 60; the
  -- rest.
  pub volume_length : answer (decode_volume (take 63 volume)) ∷ answer (decode_volume (volume ++ 0 ∷ [])) ∷ [] ≡ 11 ∷ 11 ∷ []
  pub volume_new : volume_with 32 1 ∷ volume_with 39 1 ∷ volume_with 56 1 ∷ volume_with 59 1 ∷ [] ≡ 20 ∷ 20 ∷ 21 ∷ 21 ∷ []
  pub volume_order : volume_with_two 32 56 ∷ volume_with_two 4 56 ∷ volume_with_two 0 4 ∷ volume_with_two 16 55 ∷ volume_with_two 18 60 ∷ [] ≡ 20 ∷ 21 ∷ 22 ∷ 13 ∷ 22 ∷ []
  pub volume_zeros : volume_with 4 1 ∷ volume_with 7 1 ∷ volume_with 40 1 ∷ volume_with 47 1 ∷ volume_with 55 1 ∷ volume_with 60 1 ∷ volume_with 63 1 ∷ []
      ≡ 22 ∷ 22 ∷ 22 ∷ 22 ∷ 22 ∷ 22 ∷ 22 ∷ []
  pub volume_sizes : volume_with 0 11 ∷ volume_with 0 17 ∷ volume_with 1 11 ∷ volume_with 1 17 ∷ [] ≡ 23 ∷ 23 ∷ 24 ∷ 24 ∷ []
  pub volume_place : volume_with 16 1 ∷ volume_with 18 1 ∷ [] ≡ 13 ∷ 25 ∷ []
  pub volume_rest : answer (decode_volume (put volume 48 (replicate 4 0))) ∷ volume_with 51 0x40 ∷ volume_with 52 168 ∷ volume_with 54 2 ∷ [] ≡ 26 ∷ 26 ∷ 27 ∷ 28 ∷ []
  pub base_refused : answer (decode_base (take 47 base)) ∷ base_with 32 1 ∷ base_with 4 1 ∷ base_with 47 1 ∷ base_with 0 11 ∷ base_with 1 17 ∷ base_with 16 1 ∷ base_with 18 1 ∷ []
      ≡ 11 ∷ 20 ∷ 22 ∷ 22 ∷ 23 ∷ 24 ∷ 13 ∷ 0 ∷ []
  pub buffers : answer (encode_base base_record (replicate 47 1)).1 ∷ answer (encode_volume volume_record (replicate 63 1)).1 ∷ answer (write_entry entry_record (replicate 95 1)).1 ∷ []
      ≡ 11 ∷ 11 ∷ 11 ∷ []
  -- The table's end.
  pub ends : table_end small ≡ Ok 16384
  pub ends_refused : answer (table_end (record small { base = record base_record { log2_block_size = 11 } }))
      ∷ answer (table_end (record small { base = record base_record { log2_table_slot_size = 17 } })) ∷ answer (check_file_len small 16383) ∷ answer (check_file_len small 16384) ∷ []
      ≡ 23 ∷ 24 ∷ 26 ∷ 0 ∷ []
  -- Names.
  pub names : answer (named []) ∷ answer (named (replicate 24 0x61)) ∷ answer (named (replicate 25 0x61)) ∷ answer (named (0x61 ∷ 0 ∷ [])) ∷ answer (named (0xC0 ∷ 0x80 ∷ []))
      ∷ answer (named (0xED ∷ 0xA0 ∷ 0x80 ∷ [])) ∷ answer (padded (0x61 ∷ 0 ∷ 0x61 ∷ replicate 21 0)) ∷ []
      ≡ 35 ∷ 0 ∷ 35 ∷ 35 ∷ 35 ∷ 35 ∷ 35 ∷ []
  -- An entry is read and written so,
  pub entry_read : read_entry entry ≡ Ok entry_record
  pub entry_written : entry_bytes entry_record ≡ entry
  pub entry_length : checked (take 95 entry) ≡ 11
  -- and its checks pass, or refuse it with these, in their order: flags and limits; kind, state, name; sizes and span; the headers; the
  -- footprint; what its kind asks.
  pub entry_passes : checked entry ≡ 0
  pub entry_known : entry_with 6 (4 ∷ []) ∷ at_log2 11 ∷ at_log2 17 ∷ entry_with 4 (0 ∷ []) ∷ entry_with 4 (4 ∷ []) ∷ entry_with 5 (0 ∷ []) ∷ entry_with 5 (2 ∷ []) ∷ entry_with 8 (0 ∷ []) ∷ []
      ≡ 21 ∷ 32 ∷ 32 ∷ 33 ∷ 33 ∷ 34 ∷ 34 ∷ 35 ∷ []
  pub entry_sizes : entry_with 57 (0x31 ∷ []) ∷ entry_with 81 (0x50 ∷ 0 ∷ []) ∷ entry_with 82 (3 ∷ []) ∷ entry_with 65 (0xC0 ∷ []) ∷ entry_with 72 (1 ∷ []) ∷ entry_with 80 (1 ∷ []) ∷ []
      ≡ 36 ∷ 37 ∷ 37 ∷ 38 ∷ 13 ∷ 13 ∷ []
  pub entry_headers : entry_with 40 (1 ∷ []) ∷ entry_with 41 (0x40 ∷ []) ∷ entry_with 42 (1 ∷ []) ∷ entry_with 48 (1 ∷ []) ∷ entry_with 49 (0x40 ∷ []) ∷ entry_with 49 (0 ∷ 1 ∷ []) ∷ entry_with 49 (0x60 ∷ []) ∷ []
      ≡ 13 ∷ 39 ∷ 39 ∷ 13 ∷ 39 ∷ 39 ∷ 39 ∷ []
  pub entry_footprint : entry_with 88 (0 ∷ []) ∷ entry_with 88 (10 ∷ []) ∷ entry_with 88 (9 ∷ []) ∷ [] ≡ 40 ∷ 40 ∷ 0 ∷ []
  pub entry_content : entry_with 4 (3 ∷ []) ∷ entry_with_two 4 (3 ∷ []) 36 (0 ∷ 0 ∷ []) ∷ entry_with 36 (0 ∷ 0 ∷ []) ∷ entry_with_two 57 (0 ∷ []) 65 (0 ∷ []) ∷ []
      ≡ 41 ∷ 41 ∷ 42 ∷ 38 ∷ []
  pub entry_units : entry_with 64 (1 ∷ []) ∷ entry_with 57 (2 ∷ []) ∷ entry_with_two 4 (1 ∷ []) 57 (2 ∷ []) ∷ entry_with_two 4 (1 ∷ []) 57 (1 ∷ []) ∷ [] ≡ 13 ∷ 13 ∷ 0 ∷ 13 ∷ []
  -- What an entry keeps reserved.
  pub reserved : reserved_span (record entry_record { span_start = 0x6FFF; span_end = 0x8001 }) limits ≡ Some (0x6000, 0x9000)
  pub reserved_clamped : reserved_span (record entry_record { span_start = 0x4FFF; span_end = 0x2_0001 }) limits ≡ Some (0x5000, 0x2_0000)
  pub reserved_none : reserved_span (record entry_record { span_start = 0x1000; span_end = 0x2000 }) limits ≡ None
  -- A page is read and written so,
  pub page_read : decode_page page 0x0100_0003 41 ≡ Ok header
  pub page_entries : entries page ≡ entry ∷ second ∷ []
  pub header_written : header_bytes header ≡ header_list
  pub page_written : (encode_page header (put entry 38 (5 ∷ 6 ∷ []) ∷ second ∷ []) (replicate 216 1)).0 ≡ page
  -- and refused with these: its length; zeros at 10; index, count; then by entry.
  pub page_length : answer (decode_page (take 23 page) 0x0100_0003 41) ∷ answer (decode_page (take 215 page) 0x0100_0003 41) ∷ answer (decode_page (page ++ 0 ∷ []) 0x0100_0003 41) ∷ [] ≡ 11 ∷ 11 ∷ 11 ∷ []
  pub page_header : page_with 10 1 ∷ page_with 23 1 ∷ page_with 0 4 ∷ answer (decode_page page 0x0100_0003 1) ∷ answer (decode_page (put page 4 (1 ∷ 0 ∷ 0 ∷ 0 ∷ [])) 0x0100_0003 41) ∷ []
      ≡ 22 ∷ 22 ∷ 29 ∷ 30 ∷ 30 ∷ []
  pub page_parts : page_with 27 2 ∷ page_with 27 3 ∷ page_with 62 1 ∷ page_with 63 1 ∷ page_with 158 1 ∷ page_with 24 2 ∷ page_with 120 1 ∷ [] ≡ 0 ∷ 31 ∷ 22 ∷ 22 ∷ 22 ∷ 12 ∷ 12 ∷ []
  pub encode_refused : answer (encode_page header (entry ∷ []) (replicate 300 1)).1 ∷ answer (encode_page header (entry ∷ second ∷ []) (replicate 215 1)).1 ∷ [] ≡ 30 ∷ 11 ∷ []
  pub encode_most : (h : PageHeader) (es : List (List ℕ)) (out : List ℕ) → 65535 < length es → answer (encode_page h es out).1 ≡ 11
