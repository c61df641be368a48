-- The rows are what the definitions compute, each by a line of its own: a refusal names the row.
use Rattle.std.proofs.Common.{refl}
use Rattle.codec.specs.Bytes.{le}
use Rattle.codec.specs.Crc32c.{remainder, final_remainder, reversed, digest, crc32c}
use Rattle.slot.specs.Payload.{payload}
use Rattle.slot.specs.Header.{header_read}
use Rattle.slot.specs.Read.{is_slot_length, header_sum, passes_checksum, is_malformed, check, passes_payload, validate, header_facts}
use Rattle.slot.specs.Write.{header_bytes, header_crc, written_header, slot_bytes, encode_check, encode}
use Rattle.slot.specs.Rules.{SizeRows, FieldRows, StatusRows, OrderRows, FactRows, WriteRows, PlaceRows, NumberRows}

pub size_rows : SizeRows
unfolding le header_read is_slot_length validate
size_rows =
    record {
      lengths = refl;
      lengths_10 = refl;
      log2s = refl;
      header_127 = refl;
      header_128 = refl;
      header_129 = refl;
    }

pub field_rows : FieldRows
unfolding le remainder final_remainder reversed digest crc32c header_read is_slot_length header_sum passes_checksum is_malformed check payload passes_payload validate
field_rows =
    record {
      magic = refl;
      checksum = refl;
      header_length = refl;
      format = refl;
      incompatible = refl;
      read_only = refl;
      compatible = refl;
      payload_checksum = refl;
      volume = refl;
      object = refl;
      generation = refl;
      offset = refl;
      payload_length = refl;
      index = refl;
      slots = refl;
      log2 = refl;
      zero_79 = refl;
      previous = refl;
      zeros_84 = refl;
      owner = refl;
      number = refl;
      zeros_104 = refl;
    }

pub status_rows : StatusRows
unfolding le remainder final_remainder reversed digest crc32c header_read is_slot_length header_sum passes_checksum is_malformed check payload passes_payload validate
status_rows =
    record {
      blank = refl;
      not_blank = refl;
      format_found = refl;
      flags_found = refl;
      known = refl;
      known_1 = refl;
      as_0 = refl;
      as_1 = refl;
      as_2 = refl;
      as_3 = refl;
      numbered_2 = refl;
      not_numbered_2 = refl;
      numbered_1 = refl;
      not_numbered_1 = refl;
      lengths_1 = refl;
      longest_1 = refl;
      over_128 = refl;
      over_128_in_2 = refl;
      over_200_in_2 = refl;
      payload_length_1 = refl;
      payload_length_1024 = refl;
      larger = refl;
      smaller = refl;
      index_b = refl;
      behind = refl;
    }

pub order_rows : OrderRows
unfolding le remainder final_remainder reversed digest crc32c header_read is_slot_length header_sum passes_checksum is_malformed check payload passes_payload validate
order_rows =
    record {
      size_first = refl;
      blank_first = refl;
      magic_first = refl;
      checksum_first = refl;
      format_first = refl;
      flags_first = refl;
      shape_first = refl;
      volume_first = refl;
      object_first = refl;
      place_first = refl;
      length_first = refl;
    }

pub fact_rows : FactRows
unfolding le remainder final_remainder reversed digest crc32c header_read is_slot_length header_sum passes_checksum is_malformed check header_facts
fact_rows =
    record {
      size = refl;
      log2 = refl;
      blank = refl;
      magic = refl;
      checksum = refl;
      header_length = refl;
      format = refl;
      incompatible = refl;
      shape = refl;
      volume = refl;
      object = refl;
      place = refl;
      payload_length = refl;
      whole = refl;
      whole_1 = refl;
      no_payload = refl;
      lowest = refl;
      highest = refl;
    }

pub write_rows : WriteRows
unfolding remainder final_remainder reversed digest crc32c header_bytes header_crc written_header slot_bytes encode_check encode
write_rows =
    record {
      log2s = refl;
      room = refl;
      payload_length = refl;
      payload_length_1024 = refl;
      generation = refl;
      number_0 = refl;
      number_1 = refl;
      number_most = refl;
      log2_first = refl;
      room_first = refl;
      payload_first = refl;
      generation_first = refl;
      format_last = refl;
      written = refl;
      written_1 = refl;
      longest = refl;
    }

pub place_rows : PlaceRows
unfolding payload
place_rows =
    record {
      room = refl;
      no_bytes = refl;
      highest = refl;
      bytes = refl;
      to_the_end = refl;
      short = refl;
    }

pub number_rows : NumberRows
number_rows =
    record {
      numbers = refl;
      of_numbers = refl;
      of_none = refl;
      choices = refl;
      others = refl;
      infos = refl;
      valid = refl;
    }
