-- One byte more tells whether the text goes on after a full buffer.
use Rattle.std.proofs.Common.{rules}
use Rattle.verdict_text.proofs.StepLaws.{reads_more}
use Rattle.verdict_text.proofs.answer.read_text.Goals as goal

pub returns-clause-bytes : goal.returns-clause-bytes
returns-clause-bytes g c =
    reads_more _ _ _ _ _ _ c.fill-2.new.buffer (search rules) c.in_ok-more.ensures.bound.0 c.in_ok-held.ensures.bytes c.in_ok-more.ensures.bytes
