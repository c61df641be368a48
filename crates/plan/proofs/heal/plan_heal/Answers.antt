-- What is planned for the named slot is the plan of its frame.
use Rattle.std.proofs.Common.{rules}
use Rattle.plan.proofs.NumberLaws.{heal_is}
use Rattle.plan.proofs.heal.plan_heal.Goals as goal

pub returns : goal.returns
returns c =
    heal_is c.args.frames.now c.args.clean c.in-Some.pair c.in-Some.index c.in-Some-frame_at.frame.now c.two_highest.result c.plan_named.result
    (search rules) (search rules) c.in-Some-frame_at.ensures c.plan_named.ensures
