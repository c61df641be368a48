-- `counted_before` meets its contract: the law is proved in StatementLaws.antt.
use Rattle.cut.proofs.StatementLaws.{sound_under_any}
use Rattle.cut.proofs.counted_before.Goals as goal

pub returns : goal.returns
returns c = sound_under_any
