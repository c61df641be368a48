-- `plans` meets its contract: what is planned is a first write, by PlanLaws.antt.
use Rattle.creation.proofs.PlanLaws.{plan_is_first}
use Rattle.creation.proofs.plans.Goals as goal

pub returns-clause-first : goal.returns-clause-first
returns-clause-first c = plan_is_first
