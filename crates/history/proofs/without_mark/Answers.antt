-- `without_mark` meets its contract: the theorem of a history without the mark, and which histories are, by Theorem.antt.
use Rattle.history.proofs.Theorem.{theorem_without_mark, unmarked_begins, unmarked_finish, unmarked_cut}
use Rattle.history.proofs.without_mark.Goals as goal

pub returns-clause-theorem : goal.returns-clause-theorem
returns-clause-theorem c = theorem_without_mark

pub returns-clause-begins : goal.returns-clause-begins
returns-clause-begins c = unmarked_begins

pub returns-clause-finished : goal.returns-clause-finished
returns-clause-finished c = unmarked_finish

pub returns-clause-cut : goal.returns-clause-cut
returns-clause-cut c = unmarked_cut
