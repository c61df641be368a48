-- What was written are the next of the bytes.
use Rattle.std.proofs.Common.{rules, sym, subst}
use Rattle.std.specs.Io.KnownBytes.{Appends}
use Rattle.std.proofs.KnownBytes.{Appends-trans}
use Rattle.verdict_text.proofs.StepLaws.{taken}
use Rattle.verdict_text.proofs.answer.put.Goals as goal

pub loop-done-preserved : goal.loop-done-preserved
loop-done-preserved g c =
    let grown = taken c.loop-done.done c.in_ok-n.n c.args.bytes.now in
    (search rules, subst (Appends _ _) (sym grown) (Appends-trans _ _ _ _ _ c.loop-done.invariant.1 c.in_ok-n.ensures.bytes))
