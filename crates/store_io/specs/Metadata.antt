-- What a C host finds of metadata (docs/FORMAT.md, "The C interface"): rows of numbers in the layout's order, and names with their length.
use Rattle.std.specs.Prelude.{List, [], ◌∷◌, ◌++◌, ℕ, ◌*◌, replicate, Option, Some, None, Result}
use Rattle.std.specs.Int.{from_bool}
use Rattle.meta.specs.Check.{check_entry}
use Rattle.meta.specs.Entry.{read_entry, entry_bytes, to_raw, name_and_kind, reserved_span}
use Rattle.meta.specs.Error.{◌>>=◌}
use Rattle.meta.specs.Kind.{kind_number}
use Rattle.meta.specs.Name.{name_in}
use Rattle.meta.specs.declared.meta.MetaError.{MetaError}
use Rattle.meta.specs.declared.meta.RegionKind.{RegionKind}
use Rattle.meta.specs.declared.meta.RegionName.{RegionName}
use Rattle.meta.specs.declared.meta.VolumeMeta.{VolumeMeta}
use Rattle.meta.specs.declared.meta2.VolumeMeta2.{VolumeMeta2}
use Rattle.meta.specs.declared.meta2.PageHeader.{PageHeader}
use Rattle.meta.specs.declared.meta2.RawEntry.{RawEntry}
use Rattle.meta.specs.declared.meta2.Entry2.{Entry2}
use Rattle.meta.specs.declared.meta2.EntryLimits.{EntryLimits}

-- ---- the volume record

abbrev pub base_values : VolumeMeta → List ℕ
base_values v =
    v.log2_block_size ∷ v.log2_table_slot_size ∷ v.device_index ∷ v.owner_generation ∷ v.table_offset ∷ v.created_unix_s ∷ v.features ∷ []

-- The base's numbers, then pages, entries a page, clean mark and flags.
abbrev pub volume_values : VolumeMeta2 → List ℕ
volume_values v = base_values v.base ++ v.table_pages ∷ v.entries_per_page ∷ from_bool v.clean_close ∷ v.flags ∷ []

-- ---- pages

-- Index, next seq and count, then the start and the length of the entries.
abbrev pub page_values : PageHeader → List ℕ
page_values h = h.page_index ∷ h.next_seq ∷ h.count ∷ 24 ∷ h.count * 96 ∷ []

-- ---- names

-- The bytes and the length.
abbrev pub name_found : RegionName → List ℕ × ℕ
name_found n = (n.bytes, n.len)

-- Zeros for none.
abbrev pub name_or_zeros : Option RegionName → List ℕ × ℕ
name_or_zeros (Some n) = name_found n
name_or_zeros None = (replicate 24 0, 0)

-- ---- entries

-- An entry as stored, but for its name.
abbrev pub raw_values : RawEntry → List ℕ
raw_values e =
    e.seq
    ∷ e.kind
    ∷ e.state
    ∷ e.flags
    ∷ e.compat_flags
    ∷ e.tag
    ∷ e.extent_count
    ∷ e.reserved
    ∷ e.header_a
    ∷ e.header_b
    ∷ e.data_size
    ∷ e.capacity
    ∷ e.span_start
    ∷ e.span_end
    ∷ e.footprint_seq
    ∷ []

abbrev pub raw_found : RawEntry → List ℕ × List ℕ
raw_found e = (raw_values e, e.name)

-- The entry in the first 96 bytes, checked: 11 where there are fewer.
abbrev pub checked_at : List ℕ → EntryLimits → Result Entry2 MetaError
checked_at s l = read_entry s >>= λ (e : RawEntry). check_entry e l

-- An accepted entry without state and reserved bytes.
abbrev pub entry_values : Entry2 → List ℕ
entry_values e =
    e.seq
    ∷ kind_number e.kind
    ∷ e.flags
    ∷ e.compat_flags
    ∷ e.tag
    ∷ e.extent_count
    ∷ e.header_a
    ∷ e.header_b
    ∷ e.data_size
    ∷ e.capacity
    ∷ e.span_start
    ∷ e.span_end
    ∷ e.footprint_seq
    ∷ []

abbrev pub entry_found : Entry2 → List ℕ × List ℕ × ℕ
entry_found e = (entry_values e, e.name.bytes, e.name.len)

-- An accepted entry as it is stored.
abbrev pub restored : Entry2 → List ℕ
restored e = entry_bytes (to_raw e)

-- The name where it decodes.
abbrev pub name_decoded : RawEntry → List ℕ × ℕ
name_decoded e = name_or_zeros (name_in e.name)

-- Kind, name and its length where both decode, zeros for none.
abbrev pub both_or_zeros : Option (RegionName × RegionKind) → ℕ × List ℕ × ℕ
both_or_zeros (Some both) = (kind_number both.1, both.0.bytes, both.0.len)
both_or_zeros None = (0, replicate 24 0, 0)

abbrev pub both_decoded : RawEntry → ℕ × List ℕ × ℕ
both_decoded e = both_or_zeros (name_and_kind e)

-- Start and end, two zeros for none.
abbrev pub span_values : Option (ℕ × ℕ) → List ℕ
span_values (Some span) = span.0 ∷ span.1 ∷ []
span_values None = 0 ∷ 0 ∷ []

abbrev pub span_decoded : EntryLimits → RawEntry → List ℕ
span_decoded l e = span_values (reserved_span e l)
