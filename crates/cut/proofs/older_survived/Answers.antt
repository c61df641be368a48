-- The theorem's conclusion without what sectors add to the accidents: proved in Theorem.antt.
use Rattle.cut.proofs.Theorem.{older_survived}
use Rattle.cut.proofs.older_survived.Goals as goal

pub returns : goal.returns
returns c = older_survived
