-- The text is cut at the place that was found.
use Rattle.std.proofs.lemmas.List.{take_rest}
use Rattle.verdict_text.proofs.ReadLaws.{cut_at}
use Rattle.verdict_text.proofs.read.cut.Goals as goal

pub returns-clause-value : goal.returns-clause-value
returns-clause-value c = rw (cut_at, ← c.in_ok-end.ensures.value) (simp take_rest)
