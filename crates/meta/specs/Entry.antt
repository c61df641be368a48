-- A table entry of 96 bytes (docs/FORMAT.md, "Entries"): its fields one after the other, as they are read and as they are written, and
-- what is asked of an entry that need not pass its checks.
use Rattle.std.specs.Prelude.{◌≡◌, ℕ, ◌+◌, ◌-◌, ◌%◌, ◌^◌, ◌<◌, ◌==◌, min, max, nat_lt, if◌then◌else◌, List, [], ◌∷◌, ◌++◌, length, take, drop, Option, Some, None, Result, Ok, Err}
use Rattle.std.specs.Int.{w8, w16, w32, w64, to_le_bytes}
use Rattle.std.specs.List.{concat}
use Rattle.std.specs.Option.{ok_or}
use Rattle.codec.specs.Bytes.{le, le16, le32, le64}
use Rattle.codec.specs.Cursor.{◌>>=◌, run, number}
use Rattle.meta.specs.declared.meta.MetaError.{MetaError}
use Rattle.meta.specs.declared.meta.RegionKind.{RegionKind}
use Rattle.meta.specs.declared.meta.RegionName.{RegionName}
use Rattle.meta.specs.declared.meta2.RawEntry.{RawEntry}
use Rattle.meta.specs.declared.meta2.Entry2.{Entry2}
use Rattle.meta.specs.declared.meta2.EntryLimits.{EntryLimits}
use Rattle.meta.specs.Block.{block_size}
use Rattle.meta.specs.Kind.{kind_number, kind_of}
use Rattle.meta.specs.Name.{name_in}

unfoldable pub entry_at : List ℕ → Option RawEntry
entry_at s = do
  seq ← number w32 s (record { pos = 0 })
  kind ← number w8 s seq.1
  state ← number w8 s kind.1
  flags ← number w8 s state.1
  compat_flags ← number w8 s flags.1
  name ← run 24 s compat_flags.1
  tag ← number w32 s name.1
  extent_count ← number w16 s tag.1
  reserved ← number w16 s extent_count.1
  header_a ← number w64 s reserved.1
  header_b ← number w64 s header_a.1
  data_size ← number w64 s header_b.1
  capacity ← number w64 s data_size.1
  span_start ← number w64 s capacity.1
  span_end ← number w64 s span_start.1
  footprint_seq ← number w64 s span_end.1
  Some (record {
    seq = seq.0;
    kind = kind.0;
    state = state.0;
    flags = flags.0;
    compat_flags = compat_flags.0;
    name = name.0;
    tag = tag.0;
    extent_count = extent_count.0;
    reserved = reserved.0;
    header_a = header_a.0;
    header_b = header_b.0;
    data_size = data_size.0;
    capacity = capacity.0;
    span_start = span_start.0;
    span_end = span_end.0;
    footprint_seq = footprint_seq.0;
  })

-- The same by offsets.
abbrev pub entry_fields : List ℕ → RawEntry
entry_fields s =
    record {
      seq = le32 s 0;
      kind = le w8 s 4;
      state = le w8 s 5;
      flags = le w8 s 6;
      compat_flags = le w8 s 7;
      name = take 24 (drop 8 s);
      tag = le32 s 32;
      extent_count = le16 s 36;
      reserved = le16 s 38;
      header_a = le64 s 40;
      header_b = le64 s 48;
      data_size = le64 s 56;
      capacity = le64 s 64;
      span_start = le64 s 72;
      span_end = le64 s 80;
      footprint_seq = le64 s 88;
    }

abbrev pub EntryLayout : Type 0
EntryLayout = (s : List ℕ) → entry_at s ≡ (if nat_lt (length s) 96 then None else Some (entry_fields s))

-- 11 below 96 bytes.
abbrev pub read_entry : List ℕ → Result RawEntry MetaError
read_entry s = ok_or (entry_at s) MetaError.Length

-- The entry as it is written, zeros at 38.
abbrev pub entry_row : RawEntry → List (List ℕ)
entry_row e =
    to_le_bytes w32 e.seq
    ∷ to_le_bytes w8 e.kind
    ∷ to_le_bytes w8 e.state
    ∷ to_le_bytes w8 e.flags
    ∷ to_le_bytes w8 e.compat_flags
    ∷ e.name
    ∷ to_le_bytes w32 e.tag
    ∷ to_le_bytes w16 e.extent_count
    ∷ to_le_bytes w16 0
    ∷ to_le_bytes w64 e.header_a
    ∷ to_le_bytes w64 e.header_b
    ∷ to_le_bytes w64 e.data_size
    ∷ to_le_bytes w64 e.capacity
    ∷ to_le_bytes w64 e.span_start
    ∷ to_le_bytes w64 e.span_end
    ∷ to_le_bytes w64 e.footprint_seq
    ∷ []

unfoldable pub entry_bytes : RawEntry → List ℕ
entry_bytes e = concat (entry_row e)

-- The buffer afterwards and the answer: 11 for a buffer below 96 bytes, which is kept.
unfoldable pub write_entry : RawEntry → List ℕ → List ℕ × Result ℕ MetaError
write_entry e out = if nat_lt (length out) 96 then (out, Err MetaError.Length) else (entry_bytes e ++ drop 96 out, Ok 96)

-- ---- what is asked of an entry that need not pass its checks

-- A name and a kind that both decode.
abbrev pub name_and_kind : RawEntry → Option (RegionName × RegionKind)
name_and_kind e = do
  name ← name_in e.name
  kind ← kind_of e.kind
  Some (name, kind)

-- The next multiple of a block, at most the highest number of 64 bits.
abbrev pub whole_up : ℕ → ℕ → ℕ
whole_up n block = if n % block == 0 then n else min (n + (block - n % block)) (2 ^ 64 - 1)

abbrev pub span_of : ℕ → ℕ → Option (ℕ × ℕ)
span_of start end = if nat_lt start end then Some (start, end) else None

-- The bytes that an entry keeps reserved although it fails its checks: its span widened to whole blocks, then clamped to the file and to
-- past the table.
unfoldable pub reserved_span : RawEntry → EntryLimits → Option (ℕ × ℕ)
reserved_span e l =
    let block = block_size l.log2_block in
    span_of (max (e.span_start - e.span_start % block) l.table_end) (min (whole_up e.span_end block) l.file_len)

-- ---- an accepted entry as stored

-- Its state is Ready.
abbrev pub to_raw : Entry2 → RawEntry
to_raw e =
    record {
      seq = e.seq;
      kind = kind_number e.kind;
      state = 1;
      flags = e.flags;
      compat_flags = e.compat_flags;
      name = e.name.bytes;
      tag = e.tag;
      extent_count = e.extent_count;
      reserved = 0;
      header_a = e.header_a;
      header_b = e.header_b;
      data_size = e.data_size;
      capacity = e.capacity;
      span_start = e.span_start;
      span_end = e.span_end;
      footprint_seq = e.footprint_seq;
    }

-- An entry with its reserved bytes zero, as it is stored.
abbrev pub stored : RawEntry → RawEntry
stored e = record e { reserved = 0 }

-- Each number of an entry fits its width, and the name is 24 bytes.
pub record Fits (e : RawEntry) : Type 0 where
  pub seq : e.seq < 2 ^ 32
  pub kind : e.kind < 2 ^ 8
  pub state : e.state < 2 ^ 8
  pub flags : e.flags < 2 ^ 8
  pub compat_flags : e.compat_flags < 2 ^ 8
  pub name : length e.name ≡ 24
  pub tag : e.tag < 2 ^ 32
  pub extent_count : e.extent_count < 2 ^ 16
  pub header_a : e.header_a < 2 ^ 64
  pub header_b : e.header_b < 2 ^ 64
  pub data_size : e.data_size < 2 ^ 64
  pub capacity : e.capacity < 2 ^ 64
  pub span_start : e.span_start < 2 ^ 64
  pub span_end : e.span_end < 2 ^ 64
  pub footprint_seq : e.footprint_seq < 2 ^ 64
