-- The law is proved in PlanLaws.antt.
use Rattle.plan.proofs.PlanLaws.{not_the_winner}
use Rattle.plan.proofs.laws.slot_law.Goals as goal

pub returns : goal.returns
returns c = not_the_winner
