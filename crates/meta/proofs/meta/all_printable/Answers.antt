-- `all_printable` meets its contract: a fold that keeps whether each byte so far is printable ends with whether all are.
use Rattle.std.proofs.Common.{Bool, true, ◌&&◌, ◌∙◌, ℕ, rules}
use Rattle.std.proofs.lemmas.Iterator.{YieldsList-from_slice}
use Rattle.std.proofs.lemmas.Iterator.Consumers.{fold_from_yields_List}
use Rattle.meta.specs.Name.{is_printable}
use Rattle.codec.proofs.FoldLaws.{fold_and}
use Rattle.meta.proofs.meta.all_printable.Goals as goal

pub returns : goal.returns
returns c =
    fold_from_yields_List _ (λ (all : Bool) (b : ℕ). all && is_printable b) true _ c.fold.ensures.ran (YieldsList-from_slice c.args.bytes.now cc) (λ all x next q k. search rules)
    ∙ fold_and is_printable true c.args.bytes.now
