-- What is promised of cuts is promised of both kinds: proved in CorrectLaws.antt.
use Rattle.plan.proofs.CorrectLaws.{both_kinds_survived}
use Rattle.plan.proofs.laws.cuts_law.Goals as goal

pub returns : goal.returns
returns c = both_kinds_survived
