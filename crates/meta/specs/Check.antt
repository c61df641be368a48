-- The checks of one entry by itself (docs/FORMAT.md, "Entries"), in their order; and what entries come back as.
use Rattle.std.specs.Prelude.{◌≡◌, not, ◌||◌, ℕ, ◌+◌, ◌-◌, ◌%◌, ◌==◌, nat_lt, nat_le, if◌then◌else◌, List, ◌∷◌, ◌++◌, length, take, drop, Result, Ok, Err}
use Rattle.codec.specs.Bytes.{AllBytes}
use Rattle.meta.specs.declared.meta.Field.{Field}
use Rattle.meta.specs.declared.meta.MetaError.{MetaError}
use Rattle.meta.specs.declared.meta.RegionKind.{RegionKind}
use Rattle.meta.specs.declared.meta.RegionName.{RegionName}
use Rattle.meta.specs.declared.meta.RegionState.{RegionState}
use Rattle.meta.specs.declared.meta2.RawEntry.{RawEntry}
use Rattle.meta.specs.declared.meta2.Entry2.{Entry2}
use Rattle.meta.specs.declared.meta2.EntryLimits.{EntryLimits}
use Rattle.meta.specs.Error.{◌>>=◌, refused}
use Rattle.meta.specs.Block.{block_size}
use Rattle.meta.specs.Kind.{kind_at, state_at}
use Rattle.meta.specs.Name.{padded}
use Rattle.meta.specs.Entry.{read_entry, entry_bytes, to_raw, stored, Fits}

-- 36 data above capacity; 37 span empty or past the file; 38 capacity above span; 13 span not whole blocks.
unfoldable pub check_span : RawEntry → EntryLimits → Result (Unit {0}) MetaError
check_span e l =
    if nat_lt e.capacity e.data_size then refused Field.DataSize
    else if nat_le e.span_end e.span_start || nat_lt l.file_len e.span_end then refused Field.Span
    else if nat_lt (e.span_end - e.span_start) e.capacity then refused Field.Capacity
    else if not (e.span_start % block_size l.log2_block == 0) || not (e.span_end % block_size l.log2_block == 0) then Err MetaError.Unaligned
    else Ok tt

-- A header: 13 not whole blocks; 39 before the table's end or the span, or its block past the span.
unfoldable pub check_header : RawEntry → ℕ → EntryLimits → Result (Unit {0}) MetaError
check_header e header l =
    if not (header % block_size l.log2_block == 0) then Err MetaError.Unaligned
    else if nat_lt header l.table_end || nat_lt header e.span_start || nat_lt e.span_end (header + block_size l.log2_block) then refused Field.Header
    else Ok tt

-- 39 equal headers; 40 footprint 0 or above the page's number.
unfoldable pub check_footprint : RawEntry → EntryLimits → Result (Unit {0}) MetaError
check_footprint e l =
    if e.header_a == e.header_b then refused Field.Header
    else if e.footprint_seq == 0 || nat_lt l.page_meta_seq e.footprint_seq then refused Field.FootprintSeq
    else Ok tt

-- 42 no extent; 38 no capacity.
abbrev pub check_area : RawEntry → Result (Unit {0}) MetaError
check_area e = if e.extent_count == 0 then refused Field.ExtentCount else if e.capacity == 0 then refused Field.Capacity else Ok tt

-- Slot kind 41 nonzero extents or sizes; the others have an area.
unfoldable pub check_content : RawEntry → RegionKind → Result (Unit {0}) MetaError
check_content e RegionKind.Slot = if not (e.extent_count == 0) || not (e.capacity == 0) || not (e.data_size == 0) then refused Field.Slot else Ok tt
check_content e RegionKind.Page = check_area e
check_content e RegionKind.Append = check_area e

-- Data in units of 512 bytes in append regions, and in blocks in the others.
abbrev pub unit : RegionKind → ℕ → ℕ
unit RegionKind.Append block = 512
unit RegionKind.Page block = block
unit RegionKind.Slot block = block

-- 13 sizes.
abbrev pub check_sizes : RawEntry → RegionKind → EntryLimits → Result (Unit {0}) MetaError
check_sizes e kind l =
    if not (e.capacity % block_size l.log2_block == 0) || not (e.data_size % unit kind (block_size l.log2_block) == 0) then Err MetaError.Unaligned
    else Ok tt

-- 34: only an entry that is Ready is accepted.
abbrev pub ready : RegionState → Result (Unit {0}) MetaError
ready RegionState.Ready = Ok tt
ready RegionState.Released = refused Field.State

-- What an accepted entry keeps.
abbrev pub entry2 : RawEntry → RegionKind → RegionName → Entry2
entry2 e kind name =
    record {
      seq = e.seq;
      kind = kind;
      flags = e.flags;
      compat_flags = e.compat_flags;
      name = name;
      tag = e.tag;
      extent_count = e.extent_count;
      header_a = e.header_a;
      header_b = e.header_b;
      data_size = e.data_size;
      capacity = e.capacity;
      span_start = e.span_start;
      span_end = e.span_end;
      footprint_seq = e.footprint_seq;
    }

-- The checks after those of flags and limits, in their order.
abbrev pub check_fields : RawEntry → EntryLimits → Result Entry2 MetaError
check_fields e l = do
  kind ← kind_at e.kind
  state ← state_at e.state
  _ ← ready state
  name ← padded e.name
  _ ← check_span e l
  _ ← check_header e e.header_a l
  _ ← check_header e e.header_b l
  _ ← check_footprint e l
  _ ← check_content e kind
  _ ← check_sizes e kind l
  Ok (entry2 e kind name)

-- 21 flags above 3; 32 log2; 33 kind; 34 not Ready; 35 name; then the places.
unfoldable pub check_entry : RawEntry → EntryLimits → Result Entry2 MetaError
check_entry e l =
    if nat_lt 3 e.flags then refused Field.Flags
    else if nat_lt l.log2_block 12 || nat_lt 16 l.log2_block then refused Field.Log2Block
    else check_fields e l

-- An entry is read back as it was written, whatever follows it, and 96 bytes that were read are written as they were; but for the zeros
-- at 38. An accepted entry is stored as it was.
pub record EntriesBack : Type 0 where
  pub read_back : (e : RawEntry) → Fits e → (rest : List ℕ) → read_entry (entry_bytes e ++ rest) ≡ Ok (stored e)
  pub written_back : (s : List ℕ) (e : RawEntry) → AllBytes s → read_entry s ≡ Ok e → entry_bytes e ≡ take 38 s ++ 0 ∷ 0 ∷ take 56 (drop 40 s)
  pub accepted_back : (e : RawEntry) (l : EntryLimits) (x : Entry2) → check_entry e l ≡ Ok x → length e.name ≡ 24 → to_raw x ≡ stored e
