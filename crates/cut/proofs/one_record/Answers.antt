-- Of a pair one record is read back: proved in StatementLaws.antt.
use Rattle.cut.proofs.StatementLaws.{one_payload}
use Rattle.cut.proofs.one_record.Goals as goal

pub returns : goal.returns
returns c = one_payload
