-- In ascending order there is no accident but those of the ascending cut: proved in StatementLaws.antt.
use Rattle.cut.proofs.StatementLaws.{none_in_order}
use Rattle.cut.proofs.cut_in_order.Goals as goal

pub returns-clause-none : goal.returns-clause-none
returns-clause-none c = none_in_order
