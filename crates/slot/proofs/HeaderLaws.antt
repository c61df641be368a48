-- The header read step by step is the header by its offsets.
use Rattle.std.proofs.Common.{◌≡◌, refl, sym, ap, ◌∙◌, take, ℕ, ◌≤◌, Bool, true, false, List, length, Option, Some, None, arith, le-ltb, ltb, ltb-false, lit≤}
use Rattle.std.specs.Prelude.{if◌then◌else◌}
use Rattle.codec.specs.Cursor.{◌>>=◌}
use Rattle.slot.specs.Header.{header, header_read, HeaderLayout}
use Rattle.slot.specs.declared.header.Header.{Header}

-- A row of steps as a row of tests.
step_test : {A B : Type 0} (past : Bool) (x : A) (f : A → Option B) → ((if past then None else Some x) >>= f) ≡ (if past then None else f x)
step_test true x f = refl
step_test false x f = refl

either : {A : Type 0} (past : Bool) (x : A) → (if past then x else x) ≡ x
either true x = refl
either false x = refl

module _ (s : List ℕ) (fits : ltb (length s) 128 ≡ false) where
  below : (n : ℕ) → n ≤ 128 → ltb (length s) n ≡ false
  below n within = let long = ltb-false _ _ fits in le-ltb _ _ (omega arith)

  whole : header_read s ≡ Some (header s)
  unfolding header_read
  whole =
      simp (
        below 8 (lit≤ tt),
        below 12 (lit≤ tt),
        below 14 (lit≤ tt),
        below 16 (lit≤ tt),
        below 20 (lit≤ tt),
        below 24 (lit≤ tt),
        below 28 (lit≤ tt),
        below 32 (lit≤ tt),
        below 48 (lit≤ tt),
        below 56 (lit≤ tt),
        below 64 (lit≤ tt),
        below 72 (lit≤ tt),
        below 76 (lit≤ tt),
        below 77 (lit≤ tt),
        below 78 (lit≤ tt),
        below 79 (lit≤ tt),
        below 80 (lit≤ tt),
        below 84 (lit≤ tt),
        below 88 (lit≤ tt),
        below 96 (lit≤ tt),
        below 104 (lit≤ tt),
        below 128 (lit≤ tt),
      )

pub header_layout : HeaderLayout
unfolding header_read
header_layout s = go (ltb (length s) 128) refl
  where
    go : (past : Bool) → ltb (length s) 128 ≡ past → header_read s ≡ (if past then None else Some (header s))
    go true is = simp (step_test, is, either)
    go false is = whole s is

pub header_there : (s : List ℕ) → 128 ≤ length s → header_read s ≡ Some (header s)
header_there s long = whole s (le-ltb _ _ long)

pub read_magic : (s : List ℕ) (h : Header) → Some h ≡ header_read s → h.magic ≡ take 8 s
read_magic s h is = go (ltb (length s) 128) (sym (is ∙ header_layout s))
  where
    go : (past : Bool) → (if past then None else Some (header s)) ≡ Some h → h.magic ≡ take 8 s
    go true is = absurd cc
    go false is = let same : header s ≡ h = cc in ap (λ (x : Header). x.magic) (sym same)
