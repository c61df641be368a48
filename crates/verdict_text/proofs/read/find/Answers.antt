-- What the library finds is the position.
use Rattle.std.proofs.Common.{◌==◌, ℕ}
use Rattle.verdict_text.proofs.FindLaws.{found_at}
use Rattle.verdict_text.proofs.read.find.Goals as goal

pub returns-clause-value : goal.returns-clause-value
returns-clause-value c = found_at (λ (x : ℕ). x == c.args.c) c.args.text.now c.memchr.result c.memchr.ensures
