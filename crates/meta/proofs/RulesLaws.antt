-- The rows are what the definitions compute.
use Rattle.std.proofs.Common.{refl}
use Rattle.codec.specs.Bytes.{le, put}
use Rattle.meta.specs.Block.{block_size, entries_per_page}
use Rattle.meta.specs.Utf8.{utf8_octets, utf8}
use Rattle.meta.specs.Scalar.{encode}
use Rattle.meta.specs.Name.{is_name, name_of, name_in}
use Rattle.meta.specs.Base.{base_at, check_base, decode_base, base_bytes, encode_base}
use Rattle.meta.specs.Volume.{tail_at, check_tail, check_volume, decode_volume, volume_bytes, encode_volume}
use Rattle.meta.specs.Entry.{entry_at, entry_bytes, write_entry, reserved_span}
use Rattle.meta.specs.Check.{check_span, check_header, check_footprint, check_content, check_entry}
use Rattle.meta.specs.Page.{header_at, entries, decode_page, header_bytes, page_bytes, encode_page}
use Rattle.meta.specs.Rules.{NameRows, Utf8Rows, SizeRows, BaseRows, VolumeRows, TableRows, PageRows, PageEntryRows, PageWriteRows, EntryRows, CheckRows, OrderRows, SpanRows}

pub name_rows : NameRows
unfolding utf8_octets utf8 is_name name_of name_in
name_rows =
    record {
      lengths = refl;
      lengths_in_bytes = refl;
      alone = refl;
      front = refl;
      between = refl;
      end = refl;
      last = refl;
      made = refl;
      made_of_three = refl;
      made_longest = refl;
      stored = refl;
      stored_23 = refl;
      stored_longest = refl;
      stored_behind = refl;
      stored_none = refl;
      stored_wrong = refl;
      asked = refl;
      asked_none = refl;
      texts = refl;
      texts_of_one = refl;
    }

pub utf8_rows : Utf8Rows
unfolding utf8_octets utf8 is_name name_of encode
utf8_rows =
    record {
      first_of_one = refl;
      first_of_two = refl;
      first_of_three = refl;
      first_of_three_high = refl;
      first_of_four = refl;
      first_of_four_high = refl;
      second_c2 = refl;
      second_df = refl;
      second_e0 = refl;
      second_e1 = refl;
      second_ec = refl;
      second_ed = refl;
      second_ee = refl;
      second_ef = refl;
      second_f0 = refl;
      second_f1 = refl;
      second_f3 = refl;
      second_f4 = refl;
      third_e0 = refl;
      third_e1 = refl;
      third_ed = refl;
      third_ee = refl;
      third_f0 = refl;
      third_f1 = refl;
      third_f4 = refl;
      fourth_f0 = refl;
      fourth_f1 = refl;
      fourth_f4 = refl;
      short_at_end = refl;
      short_between = refl;
      stray = refl;
      overlong = refl;
      surrogates = refl;
      too_high = refl;
      several = refl;
      six_of_four = refl;
      wrong_at_end = refl;
      encodings = refl;
      not_identical = refl;
      hangul = refl;
      above_ffff = refl;
    }

pub size_rows : SizeRows
unfolding block_size entries_per_page
size_rows =
    record {
      blocks = refl;
      entries = refl;
    }

pub base_rows : BaseRows
unfolding le put base_at check_base decode_base base_bytes encode_base
base_rows =
    record {
      read = refl;
      read_on = refl;
      written = refl;
      written_any = refl;
      written_on = refl;
      kept = refl;
      kept_empty = refl;
      lengths = refl;
      features = refl;
      zeros = refl;
      zeros_high = refl;
      blocks = refl;
      tables_12 = refl;
      tables_14 = refl;
      tables_16 = refl;
      offsets_12 = refl;
      offsets_13 = refl;
      offsets_16 = refl;
      offsets_high = refl;
      order = refl;
      order_tail = refl;
      length_first = refl;
    }

pub volume_rows : VolumeRows
unfolding le put block_size entries_per_page base_at check_base tail_at check_tail check_volume decode_volume volume_bytes encode_volume
volume_rows =
    record {
      read = refl;
      read_open = refl;
      written = refl;
      written_any = refl;
      written_open = refl;
      written_on = refl;
      kept = refl;
      kept_base = refl;
      lengths = refl;
      features = refl;
      flags = refl;
      zeros = refl;
      zeros_high = refl;
      blocks = refl;
      tables = refl;
      offsets = refl;
      offsets_16 = refl;
      pages = refl;
      entries_12 = refl;
      entries_13 = refl;
      entries_14 = refl;
      entries_15 = refl;
      entries_16 = refl;
      marks = refl;
      order = refl;
      order_tail = refl;
      length_first = refl;
    }

pub table_rows : TableRows
unfolding block_size
table_rows =
    record {
      pages = refl;
      blocks = refl;
      slots = refl;
      most = refl;
      any = refl;
      blocks_refused = refl;
      slots_refused = refl;
      block_first = refl;
      files = refl;
      files_of_most = refl;
      ends_first = refl;
    }

pub page_rows : PageRows
unfolding le put header_at entries decode_page
page_rows =
    record {
      read = refl;
      read_two = refl;
      read_zeros = refl;
      count_by_most = refl;
      count_by_next = refl;
      index = refl;
      index_asked = refl;
      zeros = refl;
      counts = refl;
      counts_of_next = refl;
      lengths_0 = refl;
      lengths_1 = refl;
      lengths_2 = refl;
      header_first = refl;
      short_first = refl;
    }

pub page_entry_rows : PageEntryRows
unfolding le put header_at entries decode_page
page_entry_rows =
    record {
      below = refl;
      below_high = refl;
      below_each = refl;
      twice = refl;
      twice_far = refl;
      once = refl;
      zeros_at_38 = refl;
      zeros_of_the_second = refl;
      any_entry = refl;
      length_before_entries = refl;
      own_first = refl;
      by_entry = refl;
      entries = refl;
    }

pub page_write_rows : PageWriteRows
unfolding header_bytes page_bytes encode_page
page_write_rows =
    record {
      written = refl;
      written_on = refl;
      written_one = refl;
      written_two = refl;
      short = refl;
      short_one = refl;
      short_two = refl;
      count_below = refl;
      count_above = refl;
      count_by_16_bits = refl;
      count_first = refl;
      most = λ es is. rw is refl;
      too_many = λ es is. rw is refl;
      bytes = refl;
      no_bytes = refl;
      rests = refl;
      rest_first = refl;
    }

pub entry_rows : EntryRows
unfolding le utf8_octets utf8 is_name name_of name_in block_size entry_at entry_bytes write_entry check_span check_header check_footprint check_content check_entry
entry_rows =
    record {
      read = refl;
      read_on = refl;
      lengths = refl;
      written = refl;
      written_on = refl;
      kept = refl;
      kept_empty = refl;
      kinds = refl;
      kind_numbers = refl;
      states = refl;
      state_numbers = refl;
      accepted = refl;
      accepted_slot = refl;
      accepted_append = refl;
      stored_again = refl;
      stored_kinds = refl;
      names_and_kinds = refl;
      no_names = refl;
    }

pub check_rows : CheckRows
unfolding utf8_octets utf8 is_name name_of name_in block_size check_span check_header check_footprint check_content check_entry
check_rows =
    record {
      flags = refl;
      compat_flags = refl;
      blocks = refl;
      kinds = refl;
      states = refl;
      names = refl;
      names_behind = refl;
      data_sizes = refl;
      capacities = refl;
      ends = refl;
      starts = refl;
      files = refl;
      starts_whole = refl;
      ends_whole = refl;
      starts_by_block = refl;
      ends_by_block = refl;
      headers_a = refl;
      headers_b = refl;
      tables_a = refl;
      tables_b = refl;
      spans_a = refl;
      spans_b = refl;
      ends_a = refl;
      ends_b = refl;
      headers_a_by_block = refl;
      headers_b_by_block = refl;
      headers_equal = refl;
      headers_apart = refl;
      footprints = refl;
      footprint_limits = refl;
      slot_extents = refl;
      slot_capacities = refl;
      slot_data = refl;
      page_extents = refl;
      append_extents = refl;
      page_capacities = refl;
      append_capacities = refl;
      page_capacity_whole = refl;
      append_capacity_whole = refl;
      page_data_whole = refl;
      append_data_whole = refl;
      capacity_by_block = refl;
      data_by_block = refl;
      high_headers_a = refl;
      high_headers_b = refl;
      high_capacities = refl;
      high_data = refl;
      high_footprints = refl;
    }

pub order_rows : OrderRows
unfolding utf8_octets utf8 is_name name_of name_in block_size check_span check_header check_footprint check_content check_entry
order_rows =
    record {
      content = refl;
      headers = refl;
      span = refl;
      known = refl;
      block = refl;
      area = refl;
      slot = refl;
    }

pub span_rows : SpanRows
unfolding block_size reserved_span
span_rows =
    record {
      starts = refl;
      ends = refl;
      empty = refl;
      reversed = refl;
      tables = refl;
      files = refl;
      between = refl;
      blocks_small = refl;
      blocks_large = refl;
      high_ends = refl;
      high_starts = refl;
      of_any = refl;
    }

pub ruleset all_rows = (name_rows, utf8_rows, size_rows, base_rows, volume_rows, table_rows, page_rows, page_entry_rows, page_write_rows, entry_rows, check_rows, order_rows, span_rows)
