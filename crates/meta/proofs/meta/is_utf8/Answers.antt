-- `is_utf8` meets its contract: what std takes for text is what the grammar takes.
use Rattle.std.proofs.Common.{◌∙◌}
use Rattle.meta.proofs.Utf8Laws.{told}
use Rattle.meta.proofs.meta.is_utf8.Goals as goal

pub returns : goal.returns
returns c = c.is_ok.ensures.value ∙ told _ _ c.args.bytes.now c.from_utf8.result c.from_utf8.ensures.cases
