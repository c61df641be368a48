-- Two of a row's owner generations differ if and only if one differs from the first, by which the code goes.
use Rattle.std.proofs.Common.{◌≡◌, refl, Bool, true, false, not, ◌||◌, List, [], ◌∷◌, ℕ, ◌+◌, ◌<◌, add-one, sym, length, get_or, drop-cons, ne_eqb, map, drop, slice_get, eqb, arith, Option, Some, None, unwrap_or}
use Rattle.std.specs.List.{list_any, cons_option}
use Rattle.judge.specs.declared.pairs.Pair.{Pair}
use Rattle.judge.specs.declared.verdict.PairVerdict.{PairVerdict}
use Rattle.judge.specs.Owners.{owner, owners, any_two_differ}
use Rattle.judge.proofs.RowLaws.{left-step}

-- One of them is another one.
abbrev pub others : ℕ → List ℕ → Bool
others o os = list_any (λ other. not (eqb other o)) os

none-differ : (first : ℕ) (os : List ℕ) → others first os ≡ false → any_two_differ os ≡ false
none-differ first [] same = refl
none-differ first (o ∷ os) same =
    let is : o ≡ first = grind (arith, same) in
    let rest : others first os ≡ false = grind (arith, same) in
    rw (is, rest, none-differ first os rest)

pub differ-first : (first : ℕ) (os : List ℕ) → any_two_differ (first ∷ os) ≡ others first os
differ-first first os = go (others first os) refl
  where
    go : (some : Bool) → others first os ≡ some → some || any_two_differ os ≡ some
    go true is = refl
    go false is = none-differ first os is

-- Whether they differ, from each other or from the first that was found.
abbrev pub differ_after : Option ℕ → List ℕ → Bool
differ_after None os = any_two_differ os
differ_after (Some first) os = others first os

pub other_found : (first : Option ℕ) (o : ℕ) (os : List ℕ) → (o ≡ unwrap_or first o → ⊥) → differ_after first (o ∷ os) ≡ true
other_found None o os other = absurd (other refl)
other_found (Some first) o os other = rw (ne_eqb o first other)

-- One pair less is left.
module _ {A C : Type 0} (shown : A → Pair) (read : C → PairVerdict) (xs : List A) (cs : List C) (i : ℕ) where
  abbrev left_from : ℕ → List ℕ
  left_from k = owners (map shown (drop k xs)) (map read (drop k cs))

  pub owners-left : (first : Option ℕ) {x : A} {v : PairVerdict} {o : Option ℕ} {answer : Bool} → i < length xs → x ≡ get_or xs i x
      → slice_get (map read cs) i ≡ Some v → o ≡ owner (shown x) v.winner → differ_after first (left_from i) ≡ answer
      → differ_after first (cons_option o (left_from (i + 1))) ≡ answer
  owners-left first {x} {v} within here verdict owner-is answered =
      rw (add-one, owner-is) (rw (drop-cons xs i x within, sym here, left-step read cs i v verdict) at answered)
