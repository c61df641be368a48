-- `plans` meets its contract: what is planned is a write of a history, by PlanLaws.antt.
use Rattle.history.proofs.PlanLaws.{free_plan_is_allowed, heal_plan_is_allowed}
use Rattle.history.proofs.plans.Goals as goal

pub returns-clause-free : goal.returns-clause-free
returns-clause-free c = free_plan_is_allowed

pub returns-clause-healing : goal.returns-clause-healing
returns-clause-healing c = heal_plan_is_allowed
