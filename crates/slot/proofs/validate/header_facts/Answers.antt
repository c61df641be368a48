-- `header_facts` meets its contract: the magic that was read is the slot's first eight bytes.
use Rattle.slot.proofs.HeaderLaws.{read_magic}
use Rattle.slot.proofs.validate.header_facts.Goals as goal

pub check-requires-clause-stands : goal.check-requires-clause-stands
check-requires-clause-stands c = read_magic _ _ c.in-Some.ensures
