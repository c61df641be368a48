-- The records so far, followed by those of the frames that are left, are all; behind them the lent pairs are kept.
use Rattle.std.proofs.Common.{◌≡◌, ◌++◌, length, map, take, drop}
use Rattle.row.specs.Records.{pair_of}
use Rattle.row.proofs.judge_row.Given as goal

abbrev pub invariant-loop-i : goal.invariant-loop-i
invariant-loop-i l = record {
  size : length l.pairs ≡ length l.initial.pairs;
  filled : take l.i l.pairs ++ map pair_of (drop l.i l.whole) ≡ map pair_of l.whole;
  kept : drop (length l.whole) l.pairs ≡ drop (length l.whole) l.initial.pairs;
}
