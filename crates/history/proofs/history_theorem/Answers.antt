-- `history_theorem` meets its contract: the theorem over histories is proved in Theorem.antt.
use Rattle.history.proofs.Theorem.{history_theorem}
use Rattle.history.proofs.history_theorem.Goals as goal

pub returns : goal.returns
returns c = history_theorem
