-- What a C host finds of a pair that it decides (docs/FORMAT.md, "Pairs" and "The C interface").
use Rattle.std.specs.Prelude.{List, drop, ℕ, Option, Some, None}
use Rattle.slot.specs.declared.slot.SlotStatus.{SlotStatus}
use Rattle.pair.specs.Pair.{decide}
use Rattle.pair.specs.Numbers.{report_numbers}
use Rattle.pair.specs.declared.pair.PairReport.{PairReport}
use Rattle.judge.specs.Values.{error_number}
use Rattle.judge.specs.declared.verdict.JudgeError.{JudgeError}

-- The pair's numbers without both codes: the winner's standing and slot, gap, chain break, and the slot of the next write.
unfoldable pub report_bytes : PairReport → List ℕ
report_bytes r = drop 2 (report_numbers r)

-- 10 where a number is no status, and the report is kept.
abbrev pub decide_answer : List ℕ → Option SlotStatus → Option SlotStatus → ℕ × List ℕ
decide_answer old (Some a) (Some b) = (0, report_bytes (decide a b))
decide_answer old (Some a) None = (error_number JudgeError.OutOfRange, old)
decide_answer old None b = (error_number JudgeError.OutOfRange, old)
