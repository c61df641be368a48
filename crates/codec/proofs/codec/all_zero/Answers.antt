-- `all_zero` meets its contract: a fold that keeps whether each byte so far is zero ends with whether all are.
use Rattle.std.proofs.Common.{Bool, true, ◌&&◌, ◌==◌, ◌∙◌, ℕ, rules}
use Rattle.std.proofs.lemmas.Iterator.{YieldsList-from_slice}
use Rattle.std.proofs.lemmas.Iterator.Consumers.{fold_from_yields_List}
use Rattle.codec.proofs.FoldLaws.{fold_and}
use Rattle.codec.proofs.codec.all_zero.Goals as goal

pub returns : goal.returns
returns c =
    fold_from_yields_List _ (λ (all : Bool) (b : ℕ). all && (b == 0)) true _ c.fold.ensures.ran (YieldsList-from_slice c.args.bytes.now cc) (λ all x next q k. search rules)
    ∙ fold_and (λ b. b == 0) true c.args.bytes.now
