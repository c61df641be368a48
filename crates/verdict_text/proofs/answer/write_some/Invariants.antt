-- A write that was interrupted added nothing, and was noted.
use Rattle.std.proofs.Common.{◌≤◌}
use Rattle.std.specs.Io.KnownBytes.{Keeps}
use Rattle.verdict_text.proofs.answer.write_some.Given as goal

abbrev pub invariant-loop : goal.invariant-loop
invariant-loop g l =
    Keeps (g.K.Sink.contents l.initial.sink) (g.K.Sink.contents l.sink) × (l.counter ≤ (g.K.Sink.calls l.sink).interrupted)
