-- `finished_law` meets its contract: the law is proved in FinishLaws.antt.
use Rattle.plan.proofs.FinishLaws.{finished_is_sound}
use Rattle.plan.proofs.laws.finished_law.Goals as goal

pub returns : goal.returns
returns c = finished_is_sound
