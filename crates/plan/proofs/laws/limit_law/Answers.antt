-- The law is proved in PlanLaws.antt.
use Rattle.plan.proofs.PlanLaws.{more_refused}
use Rattle.plan.proofs.laws.limit_law.Goals as goal

pub returns : goal.returns
returns c = more_refused
