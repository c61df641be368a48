-- `new` meets its contract: an accepted name fits in 24 bytes, and what is copied over zeros is the name as it is stored.
use Rattle.std.proofs.Common.{refl, sym, ◌∙◌, length}
use Rattle.std.proofs.lemmas.List.{drop-replicate}
use Rattle.meta.proofs.NameLaws.{room, copied, named-name}
use Rattle.meta.proofs.meta.RegionName.new.Goals as goal

pub slice_bounds-copy-end : goal.slice_bounds-copy-end
slice_bounds-copy-end c = sym (room _ _ (sym c.is_name.ensures ∙ c.if-not-is_name.false) refl)

pub returns : goal.returns
returns c =
    let ok = sym c.is_name.ensures ∙ c.if-not-is_name.false in
    named-name _ _ _ ok (copied _ _ _ ok refl c.copy.ensures) (drop-replicate (length c.args.name.now) 24 0)
