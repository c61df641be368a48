-- `zero_at` meets its contract: the place that `position` finds is the first zero, and without one it is the length.
use Rattle.std.proofs.Common.{◌≡◌, ◌==◌, ◌∙◌, ℕ, true, false, rules, tests}
use Rattle.std.proofs.lemmas.Iterator.{YieldsList-from_slice, IsFirst-from_position}
use Rattle.meta.proofs.NameLaws.{first_or_end}
use Rattle.meta.proofs.meta.zero_at.Goals as goal

pub returns-clause-value : goal.returns-clause-value
returns-clause-value c =
    let first = IsFirst-from_position _ _ _ (λ (b : ℕ). (b == 0) ≡ true) (λ (b : ℕ). (b == 0) ≡ false) c.position.ensures.ran (YieldsList-from_slice c.args.bytes.now cc) (λ x q k. search (rules, tests)) (λ x q k. search (rules, tests)) in
    c.unwrap_or.ensures ∙ first_or_end _ _ first
