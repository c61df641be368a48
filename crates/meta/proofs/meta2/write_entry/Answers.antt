-- `write_entry` meets its contract: the entry's bytes are copied, and the two at 38 are zeros then.
use Rattle.meta.proofs.PageLaws.{zeroed}
use Rattle.meta.proofs.meta2.write_entry.Goals as goal

pub returns : goal.returns
returns c = zeroed _ _ _ c.copy_from_slice.ensures.after (c.fill.ensures.after (λ y same. same)) c.told-entry
