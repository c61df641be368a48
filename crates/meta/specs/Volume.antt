-- The volume record of format 2, 64 bytes (docs/FORMAT.md, "The volume record", and "Refusals" of its decoding, the table's end and
-- the file's length): what stands after its base, the checks in their order, and the bytes as they are written.
use Rattle.std.specs.Prelude.{◌≡◌, not, ◌||◌, ℕ, ◌+◌, ◌*◌, ◌^◌, ◌≤◌, ◌<◌, ◌==◌, nat_lt, nat_le, if◌then◌else◌, List, [], ◌∷◌, ◌++◌, length, drop, Option, Some, None, Result, Ok, Err}
use Rattle.std.specs.Int.{w8, w16, w32, to_le_bytes, from_bool}
use Rattle.std.specs.List.{concat}
use Rattle.codec.specs.Bytes.{AllBytes, le, le16, le32}
use Rattle.codec.specs.Cursor.{◌>>=◌, number}
use Rattle.meta.specs.declared.meta.Field.{Field}
use Rattle.meta.specs.declared.meta.MetaError.{MetaError}
use Rattle.meta.specs.declared.meta.VolumeMeta.{VolumeMeta}
use Rattle.meta.specs.declared.meta2.VolumeMeta2.{VolumeMeta2}
use Rattle.meta.specs.declared.meta2.Tail.{Tail}
use Rattle.meta.specs.Error.{refused, after}
use Rattle.meta.specs.Block.{block_size, entries_per_page}
use Rattle.meta.specs.Base.{base_at, check_base, base_row, AcceptableBase}

-- The fields after the base, from 48 on.
unfoldable pub tail_at : List ℕ → Option Tail
tail_at s = do
  pages ← number w32 s (record { pos = 48 })
  entries ← number w16 s pages.1
  clean ← number w8 s entries.1
  reserved0 ← number w8 s clean.1
  flags ← number w32 s reserved0.1
  reserved1 ← number w32 s flags.1
  Some (record {
    table_pages = pages.0;
    entries_per_page = entries.0;
    clean_close = clean.0;
    reserved0 = reserved0.0;
    flags = flags.0;
    reserved1 = reserved1.0;
  })

-- The same by offsets.
abbrev pub tail_fields : List ℕ → Tail
tail_fields s =
    record {
      table_pages = le32 s 48;
      entries_per_page = le16 s 52;
      clean_close = le w8 s 54;
      reserved0 = le w8 s 55;
      flags = le32 s 56;
      reserved1 = le32 s 60;
    }

abbrev pub TailLayout : Type 0
TailLayout = (s : List ℕ) → tail_at s ≡ (if nat_lt (length s) 64 then None else Some (tail_fields s))

-- 22 zeros at 55, 60; 25 offset not two blocks; 26 pages 0 or from 2^30; 27 entries; 28 clean mark above 1.
unfoldable pub check_tail : VolumeMeta → Tail → Result (Unit {0}) MetaError
check_tail base t =
    if not (t.reserved0 == 0) || not (t.reserved1 == 0) then refused Field.Reserved
    else if not (base.table_offset == 2 * block_size base.log2_block_size) then refused Field.TableOffset
    else if t.table_pages == 0 || nat_le (2 ^ 30) t.table_pages then refused Field.TablePages
    else if not (t.entries_per_page == entries_per_page base.log2_table_slot_size) then refused Field.EntriesPerPage
    else if nat_lt 1 t.clean_close then refused Field.CleanClose
    else Ok tt

abbrev pub record2 : VolumeMeta → Tail → VolumeMeta2
record2 base t =
    record {
      base = base;
      table_pages = t.table_pages;
      entries_per_page = t.entries_per_page;
      clean_close = t.clean_close == 1;
      flags = t.flags;
    }

-- 20 features; 21 flags; the base's checks; the others.
unfoldable pub check_volume : VolumeMeta × ℕ × ℕ → Tail → Result VolumeMeta2 MetaError
check_volume read t =
    if not (read.0.features == 0) then refused Field.Features
    else if not (t.flags == 0) then refused Field.Flags
    else after (check_base read.0 read.1 read.2) (after (check_tail read.0 t) (Ok (record2 read.0 t)))

abbrev pub decoded_volume : Option (VolumeMeta × ℕ × ℕ) → Option Tail → Result VolumeMeta2 MetaError
decoded_volume (Some read) (Some tail) = check_volume read tail
decoded_volume (Some read) None = Err MetaError.Length
decoded_volume None tail = Err MetaError.Length

-- 11 not 64 bytes.
unfoldable pub decode_volume : List ℕ → Result VolumeMeta2 MetaError
decode_volume s = if not (length s == 64) then Err MetaError.Length else decoded_volume (base_at s) (tail_at s)

-- What is written after the base, zeros at 55 and 60.
abbrev pub tail_row : VolumeMeta2 → List (List ℕ)
tail_row v =
    to_le_bytes w32 v.table_pages
    ∷ to_le_bytes w16 v.entries_per_page
    ∷ to_le_bytes w8 (from_bool v.clean_close)
    ∷ to_le_bytes w8 0
    ∷ to_le_bytes w32 v.flags
    ∷ to_le_bytes w32 0
    ∷ []

-- The record as it is written.
abbrev pub volume_row : VolumeMeta2 → List (List ℕ)
volume_row v = base_row v.base ++ tail_row v

unfoldable pub volume_bytes : VolumeMeta2 → List ℕ
volume_bytes v = concat (volume_row v)

-- The buffer afterwards and the answer: 11 for a buffer below 64 bytes, which is kept.
unfoldable pub encode_volume : VolumeMeta2 → List ℕ → List ℕ × Result ℕ MetaError
encode_volume v out = if nat_lt (length out) 64 then (out, Err MetaError.Length) else (volume_bytes v ++ drop 64 out, Ok 64)

-- 23 log2 block outside 12..16; 24 log2 table outside block..16; else two blocks and two table slots a page.
abbrev pub table_end : VolumeMeta2 → Result ℕ MetaError
table_end v =
    if nat_lt v.base.log2_block_size 12 || nat_lt 16 v.base.log2_block_size then refused Field.Log2BlockSize
    else if nat_lt v.base.log2_table_slot_size v.base.log2_block_size || nat_lt 16 v.base.log2_table_slot_size then refused Field.Log2TableSlotSize
    else Ok (2 * block_size v.base.log2_block_size + 2 * v.table_pages * block_size v.base.log2_table_slot_size)

abbrev pub within : ℕ → Result ℕ MetaError → Result (Unit {0}) MetaError
within len (Ok end) = if nat_lt len end then refused Field.TablePages else Ok tt
within len (Err error) = Err error

-- 26 end above file.
abbrev pub check_file_len : VolumeMeta2 → ℕ → Result (Unit {0}) MetaError
check_file_len v len = within len (table_end v)

-- What a record must hold to be decoded; each number then fits its width.
pub record Acceptable (v : VolumeMeta2) : Type 0 where
  pub base : AcceptableBase v.base
  pub offset : v.base.table_offset ≡ 2 * 2 ^ v.base.log2_block_size
  pub pages_low : 1 ≤ v.table_pages
  pub pages_high : v.table_pages < 2 ^ 30
  pub entries : v.entries_per_page ≡ entries_per_page v.base.log2_table_slot_size
  pub no_flags : v.flags ≡ 0

-- A record that was decoded is encoded to the same bytes and is acceptable; an acceptable one is decoded from its bytes.
pub record VolumesBack : Type 0 where
  pub encoded : (s : List ℕ) (v : VolumeMeta2) → AllBytes s → decode_volume s ≡ Ok v → volume_bytes v ≡ s
  pub accepted : (s : List ℕ) (v : VolumeMeta2) → AllBytes s → decode_volume s ≡ Ok v → Acceptable v
  pub decoded : (v : VolumeMeta2) → Acceptable v → decode_volume (volume_bytes v) ≡ Ok v
