-- The frames read so far stand before those of the lines that are left. Each turn takes a line off.
use Rattle.std.proofs.Common.{◌≡◌, ◌+◌, ◌≤◌, true, eqb, List, ℕ, length, Some}
use Rattle.verdict_text.specs.Read.{joined, frames_in}
use Rattle.verdict_text.specs.Steps.{Holds}
use Rattle.verdict_text.proofs.read.read_frames.Given as goal

abbrev pub invariant-loop-lines : goal.invariant-loop-lines
invariant-loop-lines l = record {
  room : length l.frames ≡ length l.initial.frames;
  taken : l.pairs + length l.lines ≤ length l.text;
  frames : (read : List ℕ) × (joined (Some read) (frames_in (eqb l.pairs 0) l.lines) ≡ frames_in true l.text) × Holds l.frames l.pairs read;
}

abbrev pub decreases-loop-lines : goal.decreases-loop-lines
decreases-loop-lines l = length l.lines
