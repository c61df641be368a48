-- What the buffer holds so far is what the reader lost. Each turn reads a byte or more.
use Rattle.std.proofs.Common.{◌≡◌, ◌≤◌, ◌-◌, length, take}
use Rattle.std.specs.Io.KnownBytes.{Consumes}
use Rattle.verdict_text.proofs.answer.fill.Given as goal

abbrev pub invariant-loop-held : goal.invariant-loop-held
invariant-loop-held g l = (length l.buffer ≡ length l.initial.buffer) × (l.held ≤ length l.buffer)
    × Consumes (g.S.Source.remaining l.initial.source) (g.S.Source.remaining l.source) (take l.held l.buffer)

abbrev pub decreases-loop-held : goal.decreases-loop-held
decreases-loop-held g l = length l.initial.buffer - l.held
