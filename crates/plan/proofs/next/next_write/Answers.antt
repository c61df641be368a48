-- The bytes are those of the planned write, which is correct.
use Rattle.std.proofs.Common.{rules}
use Rattle.plan.specs.Next.{next_write}
use Rattle.plan.proofs.CorrectLaws.{survives_cuts}
use Rattle.plan.proofs.next.next_write.Goals as goal

pub returns-in-Ok-clause-written : goal.returns-in-Ok-clause-written
unfolding next_write
returns-in-Ok-clause-written c = search rules

pub returns-in-Ok-clause-survives : goal.returns-in-Ok-clause-survives
returns-in-Ok-clause-survives c =
    survives_cuts c.args.frames.now c.args.pair c.args.a.now c.args.b.now c.args.owner_generation c.args.compat_flags c.args.payload.now c.args.slot.now _ _
    (search rules) (search rules) (λ i. (c.type_inv.payload i).fits) (returns-in-Ok-clause-written c)
