-- Numbers and the bytes that they were read from, a list cut at its fields, and what a row of checks that passed says.
use Rattle.std.proofs.Common.{◌≡◌, refl, sym, ap, ap₂, ◌∙◌, Bool, true, false, List, [], ◌∷◌, ◌++◌, ℕ, ◌+◌, ◌^◌, ◌≤◌, ◌<◌, arith, length, take, drop, Result, Ok, Err, length-take, length-drop, drop-drop, drop_at}
use Rattle.std.proofs.Math.Seq.{take-add}
use Rattle.std.proofs.Math.Nat.{mod-eq_of_lt}
use Rattle.std.proofs.lemmas.Nat.{le_bytes_2, le_bytes_4, le_bytes_8}
use Rattle.std.specs.Prelude.{if◌then◌else◌}
use Rattle.std.specs.Int.{Width, w8, w16, w32, w64, byte_len, to_le_bytes, from_le_bytes}
use Rattle.std.specs.List.{concat}
use Rattle.codec.specs.Bytes.{AllBytes, le}
use Rattle.codec.proofs.ByteLaws.{take-bytes, drop-bytes}
use Rattle.meta.specs.declared.meta.MetaError.{MetaError}
use Rattle.meta.specs.Error.{after, ◌>>=◌}

-- ---- a number written as it was read

module _ (s : List ℕ) (small : AllBytes s) (i : ℕ) where
  bytes_at : (n : ℕ) → AllBytes (take n (drop i s))
  bytes_at n = take-bytes n (drop i s) (drop-bytes i s small)

  size : (n : ℕ) → i + n ≤ length s → length (take n (drop i s)) ≡ n
  size n fits = simp (length-take, length-drop) (omega arith)

  pub written_8 : i + 1 ≤ length s → to_le_bytes w8 (le w8 s i) ≡ take 1 (drop i s)
  unfolding le
  written_8 fits = go (drop i s) (bytes_at 1) (size 1 fits)
    where
      go : (t : List ℕ) → AllBytes (take 1 t) → length (take 1 t) ≡ 1 → to_le_bytes w8 (from_le_bytes w8 (take 1 t)) ≡ take 1 t
      go [] bytes one = absurd (omega arith)
      go (x ∷ t) bytes one = ap (λ (y : ℕ). y ∷ []) (mod-eq_of_lt {m = 256} (bytes 0))

  pub written_16 : i + 2 ≤ length s → to_le_bytes w16 (le w16 s i) ≡ take 2 (drop i s)
  unfolding le
  written_16 fits = le_bytes_2 (take 2 (drop i s)) _ (size 2 fits) (bytes_at 2) refl

  pub written_32 : i + 4 ≤ length s → to_le_bytes w32 (le w32 s i) ≡ take 4 (drop i s)
  unfolding le
  written_32 fits = le_bytes_4 (take 4 (drop i s)) _ (size 4 fits) (bytes_at 4) refl

  pub written_64 : i + 8 ≤ length s → to_le_bytes w64 (le w64 s i) ≡ take 8 (drop i s)
  unfolding le
  written_64 fits = le_bytes_8 (take 8 (drop i s)) _ (size 8 fits) (bytes_at 8) refl

  pub below_16 : le w16 s i < 2 ^ 16
  unfolding le
  below_16 = let at = bytes_at 2 in omega (arith, at 0, at 1)

  pub below_32 : le w32 s i < 2 ^ 32
  unfolding le
  below_32 = let at = bytes_at 4 in omega (arith, at 0, at 1, at 2, at 3)

  pub below_64 : le w64 s i < 2 ^ 64
  unfolding le
  below_64 = let at = bytes_at 8 in omega (arith, at 0, at 1, at 2, at 3, at 4, at 5, at 6, at 7)

-- ---- a list cut at its fields

-- The runs of s of these lengths, from i on.
abbrev pub pieces : List ℕ → ℕ → List ℕ → List (List ℕ)
pieces [] i s = []
pieces (n ∷ ns) i s = take n (drop i s) ∷ pieces ns (i + n) s

abbrev total : List ℕ → ℕ
total [] = 0
total (n ∷ ns) = n + total ns

pub joined : (ns : List ℕ) (i : ℕ) (s : List ℕ) → concat (pieces ns i s) ≡ take (total ns) (drop i s)
joined [] i s = refl
joined (n ∷ ns) i s =
    ap (λ (t : List ℕ). take n (drop i s) ++ t) (joined ns (i + n) s ∙ ap (take (total ns)) (sym (drop-drop n i s)))
    ∙ sym (take-add n (total ns) (drop i s))

-- Rows that are the same one by one.
infixr 20 ◌and◌
pub ◌and◌ : {x y : List ℕ} {xs ys : List (List ℕ)} → x ≡ y → xs ≡ ys → x ∷ xs ≡ y ∷ ys
first and others = ap₂ (λ (z : List ℕ) (zs : List (List ℕ)). z ∷ zs) first others

-- A number after n bytes.
pub le_behind : (w : Width) (n i : ℕ) (front s : List ℕ) → length front ≡ n → le w (front ++ s) (n + i) ≡ le w s i
unfolding le
le_behind w n i front s same =
    ap (λ (t : List ℕ). from_le_bytes w (take (byte_len w) t)) (sym (drop-drop i n (front ++ s)) ∙ ap (drop i) (drop_at front s n same))

-- ---- checks that passed

-- The library has none of these three.

pub passed : {A : Type 0} (b : Bool) (error : MetaError) {rest : Result A MetaError} {x : A}
    → (if b then Err error else rest) ≡ Ok x → (b ≡ false) × (rest ≡ Ok x)
passed true error is = let never : ◌≡◌ {A = ℕ} 0 1 = cc in absurd (omega arith)
passed false error is = (refl, is)

pub after_ok : {A : Type 0} (check : Result (Unit {0}) MetaError) {next : Result A MetaError} {x : A}
    → after check next ≡ Ok x → (check ≡ Ok tt) × (next ≡ Ok x)
after_ok (Ok pass) is = (refl, is)
after_ok (Err error) is = let never : ◌≡◌ {A = ℕ} 0 1 = cc in absurd (omega arith)

pub record Given {A B : Type 0} (read : Result A MetaError) (f : A → Result B MetaError) (x : B) : Type 0 where
  pub value : A
  pub is : read ≡ Ok value
  pub next : f value ≡ Ok x

pub then_ok : {A B : Type 0} (read : Result A MetaError) (f : A → Result B MetaError) (x : B) → (read >>= f) ≡ Ok x → Given read f x
then_ok (Ok value) f x is = record { value = value; is = refl; next = is }
then_ok (Err error) f x is = let never : ◌≡◌ {A = ℕ} 0 1 = cc in absurd (omega arith)
