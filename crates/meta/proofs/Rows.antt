-- Rows of ranges: the bytes that fit a row, and the rows of a table of which a test holds.
use Rattle.std.proofs.Common.{◌≡◌, refl, Bool, true, false, ◌&&◌, ◌||◌, List, [], ◌∷◌, ◌++◌, ℕ, zero, suc, ◌≤◌, ◌<◌, arith, le-leb, leb-true, leb, length, get_or, take, drop}
use Rattle.std.proofs.Math.Bool.{and-eq-true_iff, or-true, false≢true}
use Rattle.std.specs.List.{list_any}
use Rattle.meta.specs.Utf8.{Range, begins}

-- ---- bytes in a row, one in each range

pub data Fits : List Range → List ℕ → Type 0 where
  none : Fits [] []
  byte : {range : Range} {row : List Range} {b : ℕ} {c : List ℕ} → range.0 ≤ b → b ≤ range.1 → Fits row c → Fits (range ∷ row) (b ∷ c)

-- The same as a tuple of its bounds.
abbrev pub Bounds : List Range → List ℕ → Type 0
Bounds [] [] = Unit {0}
Bounds [] (b ∷ c) = ⊥
Bounds (range ∷ row) [] = ⊥
Bounds (range ∷ row) (b ∷ c) = (range.0 ≤ b) × (b ≤ range.1) × Bounds row c

pub bounds_fit : (row : List Range) (c : List ℕ) → Bounds row c → Fits row c
bounds_fit [] [] bounds = Fits.none
bounds_fit [] (b ∷ c) bounds = absurd bounds
bounds_fit (range ∷ row) [] bounds = absurd bounds
bounds_fit (range ∷ row) (b ∷ c) bounds = Fits.byte bounds.0 bounds.1 (bounds_fit row c bounds.2)

pub begins_fits : (row : List Range) (s : List ℕ) → begins row s ≡ true → Fits row (take (length row) s)
begins_fits [] s is = Fits.none
begins_fits (range ∷ row) [] is = absurd (false≢true is)
begins_fits (range ∷ row) (b ∷ s) is =
    let parts = (and-eq-true_iff (leb range.0 b && leb b range.1) (begins row s)).0 is in
    let ends = (and-eq-true_iff (leb range.0 b) (leb b range.1)).0 parts.0 in
    Fits.byte (leb-true _ _ ends.0) (leb-true _ _ ends.1) (begins_fits row s parts.1)

pub fits_begins : {row : List Range} {c : List ℕ} (s : List ℕ) → Fits row c → begins row (c ++ s) ≡ true
fits_begins s Fits.none = refl
fits_begins s (Fits.byte from to rest) = rw (le-leb _ _ from, le-leb _ _ to) (fits_begins s rest)

pub fits_behind : {row : List Range} {c : List ℕ} (s : List ℕ) → Fits row c → drop (length row) (c ++ s) ≡ s
fits_behind s Fits.none = refl
fits_behind s (Fits.byte from to rest) = fits_behind s rest

-- ---- a row of which a test holds

infixr 20 ◌and◌
pub data All (P : List Range → Type 0) : List (List Range) → Type 0 where
  none : All P []
  ◌and◌ : {row : List Range} {rows : List (List Range)} → P row → All P rows → All P (row ∷ rows)

pub record Found (P : List Range → Type 0) (test : List Range → Bool) : Type 0 where
  pub row : List Range
  pub holds : P row
  pub is : test row ≡ true

pub some_found : {P : List Range → Type 0} (test : List Range → Bool) (rows : List (List Range)) → All P rows → list_any test rows ≡ true → Found P test
some_found test [] All.none is = absurd (false≢true is)
some_found {P} test (row ∷ rows) (first and others) is = go (test row) refl is (some_found test rows others)
  where
    go : (here : Bool) → test row ≡ here → (here || list_any test rows) ≡ true → (list_any test rows ≡ true → Found P test) → Found P test
    go true here is again = record { row = row; holds = first; is = here }
    go false here is again = again is

pub some_at : (test : List Range → Bool) (rows : List (List Range)) (k : ℕ) → k < length rows → test (get_or rows k []) ≡ true → list_any test rows ≡ true
some_at test [] k inside is = absurd (omega arith)
some_at test (row ∷ rows) zero inside is = rw is
some_at test (row ∷ rows) (suc k) inside is = rw (some_at test rows k (omega arith) is) (or-true (test row))
