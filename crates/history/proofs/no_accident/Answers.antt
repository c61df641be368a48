-- `no_accident` meets its contract: what is left as it was written is none, by Theorem.antt.
use Rattle.history.proofs.Theorem.{link_at_most}
use Rattle.history.proofs.no_accident.Goals as goal

pub returns-clause-written : goal.returns-clause-written
returns-clause-written c = link_at_most
