-- A slot that was cut by sectors: its bytes and its length, and each of its sectors, which is the new one or the old one.
use Rattle.std.proofs.Common.{◌≡◌, refl, ap, ap₂, ◌∙◌, ◌⊎◌, inl, inr, Bool, true, false, cond, List, [], ◌∷◌, ℕ, zero, suc, ◌+◌, ◌*◌, ◌/◌, ◌≤◌, arith, length, take, drop, get_or, length-drop}
use Rattle.cut.specs.Cut.{sector_size, by_sector}
use Rattle.cut.specs.Laws.{EachSector}

-- ---- one choice for all

no_byte : (test : Bool) → ◌≡◌ {A = List ℕ} [] (cond test [] [])
no_byte true = refl
no_byte false = refl

byte_and_rest : (test : Bool) (x y : ℕ) (new old : List ℕ) → cond test x y ∷ cond test new old ≡ cond test (x ∷ new) (y ∷ old)
byte_and_rest true x y new old = refl
byte_and_rest false x y new old = refl

-- ---- the bytes

module _ (reached : ℕ → Bool) where
  -- Each byte is the old or the new one.
  pub sector_byte : (i j : ℕ) (new old : List ℕ) → length old ≡ length new
      → (get_or (by_sector reached i new old) j 0 ≡ get_or old j 0) ⊎ (get_or (by_sector reached i new old) j 0 ≡ get_or new j 0)
  unfolding by_sector
  sector_byte i j [] old sizes = inr refl
  sector_byte i j (x ∷ new) [] sizes = absurd (omega arith)
  sector_byte i zero (x ∷ new) (y ∷ old) sizes = go (reached (i / sector_size))
    where
      go : (test : Bool) → (cond test x y ≡ y) ⊎ (cond test x y ≡ x)
      go true = inr refl
      go false = inl refl
  sector_byte i (suc j) (x ∷ new) (y ∷ old) sizes = sector_byte (i + 1) j new old (omega arith)

  pub length_sectors : (i : ℕ) (new old : List ℕ) → length old ≡ length new → length (by_sector reached i new old) ≡ length new
  unfolding by_sector
  length_sectors i [] old sizes = refl
  length_sectors i (x ∷ new) [] sizes = absurd (omega arith)
  length_sectors i (x ∷ new) (y ∷ old) sizes = ap suc (length_sectors (i + 1) new old (omega arith))

  -- What lies in one sector is all new or all old.
  pub within_sector : (j i n : ℕ) (new old : List ℕ) → length old ≡ length new → sector_size * j ≤ i → i + n ≤ sector_size * j + sector_size
      → take n (by_sector reached i new old) ≡ cond (reached j) (take n new) (take n old)
  unfolding by_sector
  within_sector j i zero new old sizes from to = no_byte (reached j)
  within_sector j i (suc n) [] [] sizes from to = no_byte (reached j)
  within_sector j i (suc n) [] (y ∷ old) sizes from to = absurd (omega arith)
  within_sector j i (suc n) (x ∷ new) [] sizes from to = absurd (omega arith)
  within_sector j i (suc n) (x ∷ new) (y ∷ old) sizes from to =
      let here : i / sector_size ≡ j = omega arith in
      ap₂ (λ (v : ℕ) (s : List ℕ). v ∷ s) (ap (λ (m : ℕ). cond (reached m) x y) here)
      (within_sector j (i + 1) n new old (omega arith) (omega arith) (omega arith))
      ∙ byte_and_rest (reached j) x y (take n new) (take n old)

  sectors_from : (m i : ℕ) (new old : List ℕ) → length old ≡ length new
      → drop m (by_sector reached i new old) ≡ by_sector reached (i + m) (drop m new) (drop m old)
  unfolding by_sector
  sectors_from zero i new old sizes = ap (λ (n : ℕ). by_sector reached n new old) (omega arith)
  sectors_from (suc m) i [] old sizes = refl
  sectors_from (suc m) i (x ∷ new) [] sizes = absurd (omega arith)
  sectors_from (suc m) i (x ∷ new) (y ∷ old) sizes =
      sectors_from m (i + 1) new old (omega arith)
      ∙ ap (λ (n : ℕ). by_sector reached n (drop m new) (drop m old)) (omega arith)

pub each_sector : EachSector
each_sector reached new old sizes j =
    ap (take sector_size) (sectors_from reached (sector_size * j) _ new old sizes)
    ∙ within_sector reached j _ sector_size (drop (sector_size * j) new) (drop (sector_size * j) old)
    (simp (length-drop) (omega arith)) (omega arith) (omega arith)
