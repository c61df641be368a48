-- The judge over a row of pairs as they were read (docs/FORMAT.md, "The store verdict"; judge.rs).
use Rattle.std.specs.Prelude.{Bool, true, false, List, ℕ, ◌==◌, length, map, Option, Result}
use Rattle.judge.specs.declared.pairs.Shown.{Shown}
use Rattle.judge.specs.declared.pairs.Pair.{Pair}
use Rattle.judge.specs.declared.verdict.PairVerdict.{PairVerdict}
use Rattle.judge.specs.declared.verdict.Judgement.{Judgement}
use Rattle.judge.specs.declared.verdict.JudgeError.{JudgeError}
use Rattle.judge.specs.declared.records.SlotRead.{SlotRead}
use Rattle.judge.specs.declared.records.PairRead.{PairRead}
use Rattle.judge.specs.Part.{shown_of}
use Rattle.judge.specs.Operators.{operators_in_range}
use Rattle.judge.specs.Judge.{verdicts, judgement, row_error, unless, left}

-- ---- what the judge is told of a slot, and of a pair

abbrev pub shown_read : SlotRead → Shown
shown_read s = shown_of s.status s.facts

abbrev pub pair_read : PairRead → Pair
pair_read p = record { a = shown_read p.a; b = shown_read p.b; operator = p.operator }

-- ---- the judge

-- The error, where so many verdicts are lent.
abbrev pub records_error : List PairRead → ℕ → Option JudgeError
records_error ps room =
    row_error
    (record {
      pairs = length ps;
      rest = false;
      fits = room == length ps;
      within = operators_in_range true (map pair_read ps);
    })

-- What it answers,
unfoldable pub judge_records : List PairRead → Bool → ℕ → Result Judgement JudgeError
judge_records ps clean room = unless (records_error ps room) (judgement (map pair_read ps) clean)

-- and what it leaves in the lent verdicts.
unfoldable pub records_left : List PairRead → Bool → List PairVerdict → List PairVerdict
records_left ps clean out = left (records_error ps (length out)) (verdicts (map pair_read ps) clean) out
