-- `creation_theorem` meets its contract: what the judge answers without a volume record, by Theorem.antt.
use Rattle.creation.proofs.Theorem.{neither_answered}
use Rattle.creation.proofs.creation_theorem.Goals as goal

pub returns-clause-answered : goal.returns-clause-answered
returns-clause-answered c = neither_answered
