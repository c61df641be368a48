-- What the judge over a row (docs/FORMAT.md, "The store verdict") answers for the pairs that frames stand for, and what it leaves of lent
-- pairs and verdicts, of which it may use the first.
use Rattle.std.specs.Prelude.{◌≡◌, Bool, true, not, ◌||◌, List, ◌++◌, ℕ, ◌*◌, ◌%◌, ◌==◌, nat_lt, if◌then◌else◌, length, map, take, drop, Result, Err}
use Rattle.std.specs.List.{list_all}
use Rattle.judge.specs.declared.verdict.PairVerdict.{PairVerdict}
use Rattle.judge.specs.declared.verdict.Judgement.{Judgement}
use Rattle.judge.specs.declared.verdict.JudgeError.{JudgeError}
use Rattle.judge.specs.declared.records.PairRead.{PairRead}
use Rattle.judge.specs.Frames.{frame_width, verdict_width, pair_count, parts_in_range, frames, row_bytes, judge_frames}
use Rattle.judge.specs.Same.{mark}
use Rattle.judge.specs.Records.{judge_records, records_left as judged_left}
use Rattle.row.specs.Records.{pair_of}

-- The pairs of the frames.
abbrev pub records : List ℕ → List PairRead
records s = map pair_of (frames s)

-- No whole frames, or more pairs or verdicts than were lent.
abbrev pub is_no_row : List ℕ → ℕ → ℕ → ℕ → Bool
is_no_row s room pairs verdicts = not (length s % frame_width == 0) || nat_lt pairs (pair_count s) || nat_lt verdicts room

-- The answer, where so many pairs and verdicts are lent,
unfoldable pub judge_row : List ℕ → Bool → ℕ → ℕ → ℕ → Result Judgement JudgeError
judge_row s clean room pairs verdicts =
    if is_no_row s room pairs verdicts then Err JudgeError.OutOfRange else judge_records (records s) clean room

-- the lent pairs afterwards,
unfoldable pub records_left : List ℕ → ℕ → List PairRead → ℕ → List PairRead
records_left s room pairs verdicts =
    if is_no_row s room (length pairs) verdicts then pairs else records s ++ drop (pair_count s) pairs

-- and the lent verdicts: those behind the room are kept.
unfoldable pub verdicts_left : List ℕ → Bool → ℕ → ℕ → List PairVerdict → List PairVerdict
verdicts_left s clean room pairs verdicts =
    if is_no_row s room pairs (length verdicts) then verdicts
    else judged_left (records s) clean (take room verdicts) ++ drop room verdicts

-- So both judges answer the same over whole frames whose slots' values are in range, where so many verdicts are lent. The operators are
-- tested by both.
abbrev pub SameAnswer : Type 0
SameAnswer =
    (s : List ℕ) (clean : Bool) (room : ℕ) → length s % frame_width ≡ 0 → list_all parts_in_range (frames s) ≡ true
    → judge_records (records s) clean room ≡ judge_frames s (mark clean) (room * verdict_width)

-- The verdicts' bytes, over as many.
unfoldable pub bytes_left : List PairVerdict → List ℕ → List ℕ
bytes_left vs out = if length out == length vs * verdict_width then row_bytes vs else out
