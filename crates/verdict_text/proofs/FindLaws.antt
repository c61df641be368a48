-- The place that a search for a byte answers is the position of the first one.
use Rattle.std.proofs.Common.{◌≡◌, refl, sym, ap, ◌∙◌, Bool, true, false, ℕ, ◌<◌, ◌≤◌, arith, List, length, Option, Some, None}
use Rattle.std.specs.List.{position, position_or_len}
use Rattle.std.proofs.lemmas.List.Sums.{position_or_len_is}
use Rattle.std.proofs.lemmas.Grind.{common_steps}
use Rattle.memchr.specs.Find.{IsFirstByte}

false_of : (b : Bool) → (b ≡ true → ⊥) → b ≡ false
false_of false never = refl
false_of true never = absurd (never refl)

module _ (test : ℕ → Bool) (text : List ℕ) where
  pub found_at : (r : Option ℕ) → IsFirstByte test text r → r ≡ position test text
  found_at None nowhere =
      let at : position_or_len test text ≡ length text = position_or_len_is test text (length text) 0 (omega arith) (λ k below. false_of _ (nowhere k (omega arith) below)) (λ below. absurd (omega (arith, below))) in
      grind (arith, common_steps, at)
  found_at (Some k) is =
      let first = is.0 in
      let at : position_or_len test text ≡ k = position_or_len_is test text k 0 (omega (arith, first.high)) (λ j below. false_of _ (first.before j (omega arith) below)) (λ within. is.1) in
      grind (arith, common_steps, at, first.high)
