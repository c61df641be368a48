-- The rows of Rules.antt are what the definitions compute, a line each: what is refused names its row.
use Rattle.std.proofs.Common.{refl}
use Rattle.codec.specs.Bytes.{le}
use Rattle.judge.specs.Judge.{first_verdicts, first_tally, row_rules, verdicts, judgement}
use Rattle.judge.specs.Records.{judge_records, records_left as judged_left}
use Rattle.row.specs.Judged.{judge_row, records_left, verdicts_left, bytes_left}
use Rattle.row.specs.Rules.{RecordRows, RefusalRows, LeftRows}

pub record_rows : RecordRows
unfolding le records_left
record_rows =
    record {
      whole = refl;
      no_facts = refl;
      checksum = refl;
      numbers = refl;
      facts_3 = refl;
      status_0 = refl;
      status_2 = refl;
      status_11 = refl;
      status_13 = refl;
      status_255 = refl;
    }

pub refusal_rows : RefusalRows
unfolding judge_records judge_row
refusal_rows =
    record {
      pairs_lent = refl;
      verdicts_lent = refl;
      room = refl;
      bytes = refl;
      pairs = refl;
      operator = refl;
      operator_of_0 = refl;
      status = refl;
      facts = refl;
      lent_first = refl;
    }

pub left_rows : LeftRows
unfolding le first_verdicts first_tally row_rules verdicts judgement judge_records judged_left records_left verdicts_left bytes_left
left_rows =
    record {
      verdicts = refl;
      marked = refl;
      verdicts_no_row = refl;
      verdicts_room = refl;
      verdicts_operator = refl;
      pairs = refl;
      pairs_no_row = refl;
      pairs_part = refl;
      pairs_room = refl;
      bytes = refl;
      bytes_fewer = refl;
      bytes_more = refl;
      bytes_of_one = refl;
      no_bytes = refl;
    }
