-- `known` meets its contract: whatever is read is known, by Theorem.antt.
use Rattle.history.proofs.Theorem.{read_is_known}
use Rattle.history.proofs.known.Goals as goal

pub returns-clause-read : goal.returns-clause-read
returns-clause-read c = read_is_known
