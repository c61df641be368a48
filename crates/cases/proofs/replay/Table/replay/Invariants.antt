-- Each turn takes a line off, so that no more cases are equal than bytes are taken.
use Rattle.std.proofs.Common.{◌+◌, ◌≤◌, length}
use Rattle.cases.proofs.replay.Table.replay.Given as goal

abbrev pub invariant-loop-lines : goal.invariant-loop-lines
invariant-loop-lines g l = l.equal + length l.lines ≤ length l.list

abbrev pub decreases-loop-lines : goal.decreases-loop-lines
decreases-loop-lines g l = length l.lines
