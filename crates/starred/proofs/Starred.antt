-- The examples, computed as one fact; and the capacities of a page.
use Rattle.std.proofs.Common.{refl}
use Rattle.codec.specs.Bytes.{le}
use Rattle.codec.specs.Crc32c.{crc32c, final_remainder, remainder, digest, reversed}
use Rattle.slot.specs.Write.{encode_check}
use Rattle.judge.specs.Judge.{first_verdicts, first_tally, row_rules, verdicts, judgement}
use Rattle.meta.specs.Block.{block_size, entries_per_page}
use Rattle.meta.specs.Utf8.{utf8, utf8_octets}
use Rattle.meta.specs.Name.{is_name, name_of, name_in}
use Rattle.meta.specs.Entry.{entry_bytes, reserved_span}
use Rattle.meta.specs.Check.{check_span, check_header, check_footprint, check_content, check_entry}
use Rattle.meta.specs.Page.{header_at, header_bytes, entries, decode_page, page_bytes}
use Rattle.starred.specs.Starred.{Starred, Capacities}

pub starred : Starred
unfolding crc32c final_remainder remainder digest reversed entries_per_page block_size encode_check first_verdicts first_tally row_rules verdicts judgement decode_page header_at header_bytes page_bytes entries entry_bytes le name_of name_in is_name utf8 utf8_octets check_span check_header check_footprint check_content check_entry reserved_span
starred =
    record {
      no_bytes = refl;
      capacity_at_11 = refl;
      capacity_at_17 = refl;
      payload_384 = refl;
      payload_385 = refl;
      log2_8 = refl;
      format_1 = refl;
      a_first = refl;
      b_first = refl;
      a_second = refl;
      a_first_judged = refl;
      b_first_judged = refl;
      a_second_judged = refl;
      candidate = refl;
      numbers_4_5 = refl;
      numbers_5_5 = refl;
      numbers_4_6 = refl;
      judged_4_5 = refl;
      judged_5_5 = refl;
      judged_4_6 = refl;
      empty_page = refl;
      letters_24 = refl;
      c0_80 = refl;
      name_20 = refl;
      name_7e = refl;
      name_1f = refl;
      name_7f = refl;
      c2_80 = refl;
      page_1f = refl;
      entry_20 = refl;
      entry_1f = refl;
      no_name_1f = refl;
      no_kind_1f = refl;
      span_1f = refl;
      end_16384 = refl;
      file_16383 = refl;
    }

pub capacities : Capacities
unfolding entries_per_page block_size
capacities = (refl, refl, refl, refl, refl)
