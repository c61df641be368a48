-- The rows of Rules.antt and FrameRules.antt are what the definitions compute, a line each: what is refused names its row.
use Rattle.std.proofs.Common.{refl}
use Rattle.codec.specs.Bytes.{le}
use Rattle.judge.specs.Part.{part_bytes}
use Rattle.judge.specs.Judge.{first_verdicts, first_tally, row_rules, verdicts, judgement}
use Rattle.judge.specs.Frames.{frames_error, judge_frames, frames_left}
use Rattle.judge.specs.Records.{judge_records, records_left}
use Rattle.judge.specs.Rules.{ShownRows, FirstPassRows, OppositeRows, NumberRows, OperatorRows, StoreRows, OwnerRows}
use Rattle.judge.specs.FrameRules.{ValueRows, FrameRows, RefusalRows, RecordRows}

pub shown_rows : ShownRows
unfolding part_bytes
shown_rows =
    record {
      not_read = (refl, refl);
      length = (refl, refl);
      blank = (refl, refl);
      magic = (refl, refl);
      header = (refl, refl);
      later_version = (refl, refl);
      flags = (refl, refl);
      malformed = (refl, refl);
      foreign = (refl, refl);
      object = (refl, refl);
      place = (refl, refl);
      payload = (refl, refl);
      whole_part = refl;
      whole_read = refl;
      no_status = refl;
      fills_nothing = refl;
      fills_checksum = refl;
      fills_numbers = refl;
      fills_whole = refl;
      fills_info = refl;
      unread = refl;
    }

pub first_pass_rows : FirstPassRows
unfolding first_verdicts first_tally row_rules verdicts judgement
first_pass_rows =
    record {
      refused_a = refl;
      refused_b = refl;
      refused_both = refl;
      refused_other = refl;
      other_refused = refl;
      fork = refl;
      fork_chained = refl;
      fork_of_1 = refl;
      fork_of_most = refl;
      newer_a = refl;
      newer_b = refl;
      lower_number = refl;
      gap = refl;
      no_chain = refl;
      by_64_bits = refl;
      newer_most = refl;
      blanks = refl;
      headers = refl;
      payloads = refl;
      others = refl;
    }

pub opposite_rows : OppositeRows
unfolding first_verdicts first_tally row_rules verdicts judgement
opposite_rows =
    record {
      first_b = refl;
      first_a = refl;
      blank_0 = (refl, refl);
      blank = (refl, refl);
      replaced_2 = (refl, refl);
      replaced_3 = (refl, refl);
      replaced_most = (refl, refl);
      replaced_1 = (refl, refl);
      replaced_in_1 = (refl, refl);
      stored_own = (refl, refl);
      stored_other = (refl, refl);
      stored_high = (refl, refl);
      below = (refl, refl);
      below_other = (refl, refl);
      far_below = (refl, refl);
      same = (refl, refl);
      same_other = (refl, refl);
      next = (refl, refl);
      next_other = (refl, refl);
      next_high = (refl, refl);
      second = (refl, refl);
      next_of_1 = (refl, refl);
      by_64_bits = (refl, refl);
      last = (refl, refl);
      same_most = (refl, refl);
      wrapped = (refl, refl);
      other = (refl, refl);
      other_of_1 = (refl, refl);
    }

pub number_rows : NumberRows
unfolding first_verdicts first_tally row_rules verdicts judgement
number_rows =
    record {
      lower = (refl, refl);
      equal = (refl, refl);
      next = (refl, refl);
      gap = (refl, refl);
      from_0 = (refl, refl);
      across_32_bits = (refl, refl);
      by_64_bits = (refl, refl);
      last = (refl, refl);
      wrapped = (refl, refl);
      of_another = (refl, refl);
      equal_elsewhere = (refl, refl);
      above_elsewhere = (refl, refl);
      of_a_fork = (refl, refl);
      equal_in_a_fork = (refl, refl);
      of_torn = (refl, refl);
      equal_torn = (refl, refl);
      above_torn = (refl, refl);
      equal_refused = (refl, refl);
      of_no_header = (refl, refl);
      third = (refl, refl);
      third_of_another = (refl, refl);
      third_lower = (refl, refl);
      third_equal = (refl, refl);
      third_above = (refl, refl);
      third_gap = (refl, refl);
    }

pub operator_rows : OperatorRows
unfolding first_verdicts first_tally row_rules verdicts judgement
operator_rows =
    record {
      own_below = (refl, refl);
      own_equal = (refl, refl);
      own_above = (refl, refl);
      other_equal = (refl, refl);
      other_above = (refl, refl);
      other_most = (refl, refl);
      last_own = (refl, refl);
      of_0 = (refl, refl);
      own_of_0 = (refl, refl);
      beside_0 = (refl, refl);
      volume_above = refl;
      volume_above_own = refl;
      beside_volume = refl;
      beside_volume_own = refl;
      each = refl;
      each_own = refl;
      two = refl;
      late = refl;
    }

pub store_rows : StoreRows
unfolding first_verdicts first_tally row_rules verdicts judgement
store_rows =
    record {
      whole = (refl, refl);
      whole_marked = (refl, refl);
      volume_alone = (refl, refl);
      volume_marked = (refl, refl);
      one = (refl, refl);
      one_marked = (refl, refl);
      one_b = (refl, refl);
      next = (refl, refl);
      next_marked = (refl, refl);
      last = (refl, refl);
      last_b = (refl, refl);
      two = (refl, refl);
      two_apart = (refl, refl);
      three = (refl, refl);
      demoted = refl;
      demoted_b = refl;
      demoted_both = refl;
      kept = refl;
      own = (refl, refl);
      own_marked = (refl, refl);
      own_a_marked = (refl, refl);
      own_alone = (refl, refl);
      both = (refl, refl);
      both_marked = (refl, refl);
      beside_damage = (refl, refl);
      beside_late = (refl, refl);
      beside_lost = (refl, refl);
      beside_refused = (refl, refl);
      beside_third = (refl, refl);
      page_beside_damage = (refl, refl);
      page_beside_late = (refl, refl);
      page_beside_lost = (refl, refl);
      page_beside_refused = (refl, refl);
      page_after_damage = (refl, refl);
      damaged = (refl, refl);
      damaged_page = (refl, refl);
      damaged_torn = (refl, refl);
      damaged_late = (refl, refl);
      damaged_third = (refl, refl);
      late = (refl, refl);
      late_torn = (refl, refl);
      lost_volume = (refl, refl);
      lost_torn = (refl, refl);
      refused_volume = (refl, refl);
      refused_torn = (refl, refl);
      refused_page = (refl, refl);
      lost_page = (refl, refl);
    }

pub owner_rows : OwnerRows
unfolding first_verdicts first_tally row_rules verdicts judgement
owner_rows =
    record {
      same = refl;
      up = refl;
      down = refl;
      one = refl;
      zeros = refl;
      zero_first = refl;
      zero_last = refl;
      by_64_bits = refl;
      highest = refl;
      highest_same = refl;
      doubted_winner = refl;
      doubted_both = refl;
      doubted_same = refl;
      beside_written = refl;
      written_same = refl;
      first_of_three = refl;
      middle_of_three = refl;
      last_of_three = refl;
      same_of_three = refl;
      pages_alone = refl;
      lost_between = refl;
      fork_aside = refl;
      later_aside = refl;
      one_winner = refl;
      no_winner = refl;
    }

pub value_rows : ValueRows
value_rows =
    record {
      verdicts = refl;
      verdict_read = refl;
      standings = refl;
      choices = refl;
      slots = refl;
      heal_slots = refl;
      heal_pairs = refl;
      heals = refl;
    }

pub frame_rows : FrameRows
unfolding le first_verdicts first_tally row_rules verdicts judgement frames_error judge_frames frames_left
frame_rows =
    record {
      read = refl;
      answer = refl;
      verdicts = refl;
      other_answer = refl;
      other_verdicts = refl;
      maxima = refl;
      two_maxima = refl;
      heal = refl;
      no_heal = refl;
    }

pub refusal_rows : RefusalRows
unfolding le first_verdicts first_tally row_rules verdicts judgement frames_error judge_frames frames_left
refusal_rows =
    record {
      pairs = refl;
      bytes = refl;
      most_bytes = refl;
      room = refl;
      mark = refl;
      status_a = refl;
      status_b = refl;
      facts_a = refl;
      facts_b = refl;
      second_pair = refl;
      operator_of_0 = refl;
      operator_of_1 = refl;
      operator_of_2 = refl;
      kept = refl;
      kept_room = refl;
      kept_mark = refl;
      written = refl;
      no_maxima = refl;
      no_maxima_mark = refl;
      no_heal = refl;
      no_heal_mark = refl;
    }

pub record_rows : RecordRows
unfolding first_verdicts first_tally row_rules verdicts judgement judge_records records_left
record_rows =
    record {
      answer = refl;
      verdicts = refl;
      marked_answer = refl;
      marked_verdicts = refl;
      pairs = refl;
      room = refl;
      operator_of_0 = refl;
      operator_of_1 = refl;
      pairs_first = refl;
      limit_first = refl;
      room_first = refl;
      kept = refl;
      written = refl;
    }
