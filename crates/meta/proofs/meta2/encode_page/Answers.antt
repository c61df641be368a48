-- `encode_page` meets its contract: the row of writes fills the header's 24 bytes, so none is refused, and the entries stand after them.
use Rattle.std.proofs.Common.{◌∙◌, ap, arith}
use Rattle.meta.proofs.PageLaws.{header_fits, encoded}
use Rattle.meta.proofs.meta2.encode_page.Goals as goal

pub returns : goal.returns
returns c =
    let written = c.write.ensures ∙ header_fits c.args.h.now c.args.out.now (omega arith) in
    encoded c.args.h.now c.args.entries.now c.args.out.now _ _ (omega arith) c.if-entries-h.false (omega arith) (ap (λ p. p.0) written) c.write_entries.ensures
