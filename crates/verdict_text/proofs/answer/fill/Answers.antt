-- What was read stands after what was held.
use Rattle.std.proofs.Common.{rules, sym, subst, ◌-◌, length}
use Rattle.std.specs.Io.KnownBytes.{Consumes}
use Rattle.std.proofs.KnownBytes.{Consumes-trans}
use Rattle.verdict_text.proofs.StepLaws.{filled}
use Rattle.verdict_text.proofs.answer.fill.Goals as goal

pub loop-held-preserved : goal.loop-held-preserved
loop-held-preserved g c =
    let room = length c.loop-held.buffer - c.loop-held.held in
    let grown = filled c.loop-held.held room c.in_ok-n.n c.loop-held.buffer c.read_some.new.buffer c.loop-held.invariant.1 c.in_ok-n.ensures.bound.0 in
    (search rules, search rules, subst (Consumes _ _) (sym grown) (Consumes-trans _ _ _ _ _ c.loop-held.invariant.2 c.in_ok-n.ensures.bytes.0))
