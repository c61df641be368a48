-- What `next_write` keeps, for the identities that the numbers stand for.
use Rattle.store_io.proofs.PlanningLaws.{of_numbers}
use Rattle.store_io.proofs.planning.sio_next_write.Goals as goal

pub returns-clause-survives : goal.returns-clause-survives
returns-clause-survives c =
    of_numbers c.args.frames.now c.args.payload.now c.args.slot.now c.args.pair c.args.owner_generation c.args.compat_flags
    c.next_write-made.new.slot c.next_write-made.result c.numbered_pair.result.0 c.numbered_pair.result.1 _ _
    c.numbered_pair.ensures.a c.numbered_pair.ensures.b c.next_write-made.ensures.written c.next_write-made.ensures.survives
