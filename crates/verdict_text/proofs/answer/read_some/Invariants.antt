-- A read that was interrupted took nothing, and was noted.
use Rattle.std.proofs.Common.{◌≡◌, ◌≤◌, length}
use Rattle.std.specs.Io.KnownBytes.{Keeps}
use Rattle.verdict_text.proofs.answer.read_some.Given as goal

abbrev pub invariant-loop : goal.invariant-loop
invariant-loop g l =
    (length l.buffer ≡ length l.initial.buffer) × Keeps (g.S.Source.remaining l.initial.source) (g.S.Source.remaining l.source)
    × (l.counter ≤ (g.S.Source.calls l.source).interrupted)
