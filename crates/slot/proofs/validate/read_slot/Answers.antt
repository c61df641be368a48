-- `read_slot` meets its contract: the magic that was read is the slot's first eight bytes.
use Rattle.slot.proofs.HeaderLaws.{read_magic}
use Rattle.slot.proofs.validate.read_slot.Goals as goal

pub check-checked-requires-clause-stands : goal.check-checked-requires-clause-stands
check-checked-requires-clause-stands c = read_magic _ _ c.in-Some.ensures
