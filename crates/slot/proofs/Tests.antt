-- Rows of tests that were passed: what each of them says. The library has neither for `≡ true` and `≡ Ok`.
use Rattle.std.proofs.Common.{◌≡◌, refl, Bool, true, false, ◌&&◌, Result, Ok, Err}
use Rattle.std.specs.Prelude.{if◌then◌else◌}

pub both : (a b : Bool) → (a && b) ≡ true → (a ≡ true) × (b ≡ true)
both true b is = (refl, is)
both false b is = absurd cc

pub passed : {E : Type 0} (fails : Bool) (error : E) (rest : Result (Unit {0}) E) → (if fails then Err error else rest) ≡ Ok tt
    → (fails ≡ false) × (rest ≡ Ok tt)
passed true error rest is = absurd cc
passed false error rest is = (refl, is)
