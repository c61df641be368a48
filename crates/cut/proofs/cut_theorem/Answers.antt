-- `cut_theorem` meets its contract: the cut theorem is proved in Theorem.antt.
use Rattle.cut.proofs.Theorem.{cut_theorem}
use Rattle.cut.proofs.cut_theorem.Goals as goal

pub returns : goal.returns
returns c = cut_theorem
