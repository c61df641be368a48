-- `asked_law` meets its contract: what is asked of a plan's write and of its store, by CorrectLaws.antt.
use Rattle.plan.proofs.CorrectLaws.{any_given, any_planned_for}
use Rattle.plan.proofs.laws.asked_law.Goals as goal

pub returns-clause-given : goal.returns-clause-given
returns-clause-given c = any_given

pub returns-clause-store : goal.returns-clause-store
returns-clause-store c = any_planned_for
