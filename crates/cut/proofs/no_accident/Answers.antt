-- A header that fails its checksum and is not the new one is no accident: proved in CutLaws.antt.
use Rattle.cut.proofs.CutLaws.{failed_sum}
use Rattle.cut.proofs.no_accident.Goals as goal

pub returns-clause-header : goal.returns-clause-header
returns-clause-header c = failed_sum
