-- When a store has no clean mark: proved in StatementLaws.antt.
use Rattle.cut.proofs.StatementLaws.{unmarked_store}
use Rattle.cut.proofs.clean_mark.Goals as goal

pub returns-clause-unmarked_store : goal.returns-clause-unmarked_store
returns-clause-unmarked_store c = unmarked_store
