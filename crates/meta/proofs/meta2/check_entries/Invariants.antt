-- What is left decides.
use Rattle.std.proofs.Common.{◌≡◌, length}
use Rattle.meta.specs.Page.{check_entries}
use Rattle.meta.proofs.meta2.check_entries.Given as goal

abbrev pub invariant-loop-rest : goal.invariant-loop-rest
invariant-loop-rest l = check_entries l.next_seq l.rest ≡ check_entries l.next_seq l.entries

abbrev pub decreases-loop-rest : goal.decreases-loop-rest
decreases-loop-rest l = length l.rest
