-- The rows are what the definitions compute.
use Rattle.std.proofs.Common.{refl}
use Rattle.codec.specs.Bytes.{le}
use Rattle.codec.specs.Crc32c.{remainder, final_remainder, reversed, digest, crc32c}
use Rattle.slot.specs.Write.{header_bytes, header_crc, written_header, slot_bytes, encode_check, encode}
use Rattle.pair.specs.Pair.{decide}
use Rattle.judge.specs.Judge.{first_verdicts, first_tally, row_rules, verdicts, judgement}
use Rattle.judge.specs.Frames.{frames_error}
use Rattle.plan.specs.Numbers.{next_number, heal_number}
use Rattle.plan.specs.Plan.{plan_write}
use Rattle.plan.specs.Heal.{plan_heal}
use Rattle.plan.specs.Next.{next_write}
use Rattle.plan.specs.Rules.{PlanRows, NumberRows, HealRows, WriteRows, ErrorRows}

pub plan_rows : PlanRows
unfolding le frames_error decide plan_write
plan_rows =
    record {
      empty = refl;
      empty_beside = refl;
      empty_of_3 = refl;
      won_a = refl;
      won_b = refl;
      lower_number = refl;
      gap = refl;
      no_chain = refl;
      first_a = refl;
      first_b = refl;
      beside_header = refl;
      header_beside = refl;
      beside_torn = refl;
      torn_beside = refl;
      beside_others = refl;
      others_beside = refl;
      fork = refl;
      refused_5 = refl;
      refused_6 = refl;
      none_a = refl;
      none_b = refl;
      lost_torn = refl;
      used_up_fork = refl;
      used_up_lost = refl;
      wide = refl;
      by_64_bits = refl;
      last_generation = refl;
      no_generation = refl;
      older_generation = refl;
      last_number = refl;
      no_number = refl;
      no_number_at_first = refl;
      no_number_elsewhere = refl;
      another_used_up = refl;
      of_the_page = refl;
      of_the_volume = refl;
      of_older = refl;
      of_torn = refl;
      of_lost = refl;
      of_refused = refl;
      of_fork = refl;
      of_no_header = refl;
      of_operator_3 = refl;
      not_of_operator_3 = refl;
      of_operator_15 = refl;
      last_pair = refl;
      no_pair = refl;
      no_pair_first = refl;
      no_pair_64_bits = refl;
      first_of_112 = refl;
      last_of_112 = refl;
      beyond_112 = refl;
      of_113 = refl;
      no_frames = refl;
      out_of_range = refl;
      in_the_planned = refl;
    }

pub number_rows : NumberRows
unfolding le frames_error next_number heal_number
number_rows =
    record {
      highest = refl;
      winners = refl;
      from_1 = refl;
      winners_from_1 = refl;
      number_0 = refl;
      in_a = refl;
      in_b = refl;
      winner_in_a = refl;
      winner_in_b = refl;
      of_the_first = refl;
      winner_of_the_first = refl;
      last_of_112 = refl;
      winner_last_of_112 = refl;
      torn_by_facts = refl;
      valid_by_facts = refl;
      others = refl;
      fork = refl;
      fork_aside = refl;
      refused_5 = refl;
      refused_aside = refl;
      refused_b_aside = refl;
      lost_aside = refl;
      doubted = refl;
      beside_torn = refl;
      wide = refl;
      by_64_bits = refl;
      wide_winner = refl;
      winner_by_64_bits = refl;
      last = refl;
      used_up = refl;
      last_winner = refl;
      used_up_winner = refl;
      beside_the_last = refl;
      by_operator = refl;
      winners_by_operator = refl;
      no_frames = refl;
      out_of_range = refl;
      of_113 = refl;
      no_frames_of_winners = refl;
      out_of_range_of_winners = refl;
      of_113_of_winners = refl;
    }

pub heal_rows : HealRows
unfolding le first_verdicts first_tally row_rules verdicts judgement frames_error decide plan_heal
heal_rows =
    record {
      none = refl;
      none_marked = refl;
      torn_page = refl;
      torn_page_a = refl;
      cut_page = refl;
      cut_page_b = refl;
      cut_volume = refl;
      cut_volume_a = refl;
      torn_volume = refl;
      second_page = refl;
      before_a_page = refl;
      number_0 = refl;
      marked_page = refl;
      marked_volume = refl;
      damaged_page = refl;
      lost_beside = refl;
      damaged_volume = refl;
      beside_fork = refl;
      beside_late = refl;
      beside_no_number = refl;
      beside_refused = refl;
      two = refl;
      of_operator_3 = refl;
      of_operator_0 = refl;
      of_two_pages = refl;
      wide = refl;
      by_64_bits = refl;
      last_generation = refl;
      no_generation = refl;
      last_number = refl;
      no_number = refl;
      last_torn = refl;
      used_up_not_named = refl;
      last_of_112 = refl;
      of_113 = refl;
      no_frames = refl;
      out_of_range = refl;
      out_of_range_marked = refl;
      mark_2 = refl;
    }

pub write_rows : WriteRows
unfolding le remainder final_remainder reversed digest crc32c header_bytes header_crc written_header slot_bytes encode_check encode frames_error decide plan_write next_write
write_rows =
    record {
      at_0 = refl;
      at_8_checksum = refl;
      at_12_length = refl;
      at_14_format = refl;
      at_16 = refl;
      at_24_flags = refl;
      at_28_payload = refl;
      at_32_volume = refl;
      at_48_object = refl;
      at_56_generation = refl;
      at_64_offset = refl;
      at_72_length = refl;
      at_76_index = refl;
      at_78_size = refl;
      at_80_previous = refl;
      at_88_owner = refl;
      at_96_number = refl;
      at_104 = refl;
      at_128_payload = refl;
      at_131 = refl;
      answered = refl;
      a_volume = refl;
      a_object = refl;
      a_generation = refl;
      a_offset = refl;
      a_index_and_size = refl;
      a_previous = refl;
      a_number = refl;
      a_length = refl;
      a_answered = refl;
      no_payload = refl;
      payload_384 = refl;
      payload_385 = refl;
      room_511 = refl;
      room_513 = refl;
      log2_8 = refl;
      log2_16 = refl;
      log2_17 = refl;
      fork = refl;
      lost = refl;
      refused_5 = refl;
      no_pair = refl;
      no_generation = refl;
      no_number = refl;
      no_frames = refl;
      of_113 = refl;
      out_of_range = refl;
    }

pub error_rows : ErrorRows
error_rows =
    record {
      numbers = refl;
    }
