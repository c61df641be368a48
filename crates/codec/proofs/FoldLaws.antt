-- A fold that keeps whether each byte so far passes a test ends with whether all do.
use Rattle.std.proofs.Common.{◌≡◌, sym, ◌∙◌, Bool, ◌&&◌, ℕ, List, [], ◌∷◌}
use Rattle.std.specs.List.{list_all, fold}
use Rattle.std.proofs.Math.Bool.{and_assoc, and-true}

pub fold_and : (test : ℕ → Bool) (all : Bool) (s : List ℕ) → fold (λ (a : Bool) (b : ℕ). a && test b) all s ≡ (all && list_all test s)
fold_and test all [] = sym (and-true all)
fold_and test all (b ∷ s) = fold_and test (all && test b) s ∙ and_assoc all (test b) (list_all test s)
