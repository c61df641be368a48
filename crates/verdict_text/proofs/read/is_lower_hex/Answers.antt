-- `is_lower_hex` meets its contract: a fold that keeps whether each character so far is a digit ends with whether all are.
use Rattle.std.proofs.Common.{Bool, true, ◌&&◌, ◌∙◌, ℕ, rules}
use Rattle.std.proofs.lemmas.Iterator.{YieldsList-from_slice}
use Rattle.std.proofs.lemmas.Iterator.Consumers.{fold_from_yields_List}
use Rattle.codec.proofs.FoldLaws.{fold_and}
use Rattle.verdict_text.specs.Read.{is_digit}
use Rattle.verdict_text.proofs.read.is_lower_hex.Goals as goal

pub returns : goal.returns
returns c =
    fold_from_yields_List _ (λ (all : Bool) (c : ℕ). all && is_digit c) true _ c.fold.ensures.ran (YieldsList-from_slice c.args.text.now cc) (λ all x next q k. search rules)
    ∙ fold_and is_digit true c.args.text.now
