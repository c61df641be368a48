-- The table computes.
use Rattle.std.proofs.Common.{refl, lt-ltb, length}
use Rattle.codec.specs.Bytes.{le, put}
use Rattle.meta.specs.Block.{block_size, entries_per_page}
use Rattle.meta.specs.Utf8.{utf8_octets, utf8}
use Rattle.meta.specs.Name.{is_name, name_of, name_in}
use Rattle.meta.specs.Base.{base_at, check_base, decode_base, base_bytes, encode_base}
use Rattle.meta.specs.Volume.{tail_at, check_tail, check_volume, decode_volume, volume_bytes, encode_volume}
use Rattle.meta.specs.Entry.{entry_at, entry_bytes, write_entry, reserved_span}
use Rattle.meta.specs.Check.{check_span, check_header, check_footprint, check_content, check_entry}
use Rattle.meta.specs.Page.{header_at, entries, decode_page, header_bytes, page_bytes, encode_page}
use Rattle.meta.specs.Table.{Table}

pub table : Table
unfolding le put block_size entries_per_page utf8_octets utf8 is_name name_of name_in base_at check_base decode_base base_bytes encode_base tail_at check_tail check_volume decode_volume volume_bytes encode_volume entry_at entry_bytes write_entry reserved_span check_span check_header check_footprint check_content check_entry header_at entries decode_page header_bytes page_bytes encode_page
table =
    record {
      numbers = refl;
      kinds = refl;
      kind_bytes = refl;
      volume_read = refl;
      volume_written = refl;
      base_read = refl;
      base_written = refl;
      volume_length = refl;
      volume_new = refl;
      volume_order = refl;
      volume_zeros = refl;
      volume_sizes = refl;
      volume_place = refl;
      volume_rest = refl;
      base_refused = refl;
      buffers = refl;
      ends = refl;
      ends_refused = refl;
      names = refl;
      entry_read = refl;
      entry_written = refl;
      entry_length = refl;
      entry_passes = refl;
      entry_known = refl;
      entry_sizes = refl;
      entry_headers = refl;
      entry_footprint = refl;
      entry_content = refl;
      entry_units = refl;
      reserved = refl;
      reserved_clamped = refl;
      reserved_none = refl;
      page_read = refl;
      page_entries = refl;
      header_written = refl;
      page_written = refl;
      page_length = refl;
      page_header = refl;
      page_parts = refl;
      encode_refused = refl;
      encode_most = λ h es out many. rw (lt-ltb 65535 (length es) many) refl;
    }
