-- The winners of the frames that are left, beside the highest number so far.
use Rattle.std.proofs.Common.{◌≡◌, max, drop, map}
use Rattle.judge.specs.Frames.{pair_from}
use Rattle.plan.specs.Numbers.{highest_winner}
use Rattle.plan.proofs.numbers.highest_winner.Given as goal

abbrev pub invariant-loop-frame : goal.invariant-loop-frame
invariant-loop-frame l = record {
  rest : max l.most (highest_winner l.operator (map pair_from (drop l.frame-index l.pairs))) ≡ highest_winner l.operator (map pair_from l.pairs);
}
