-- Reading what was written: where the bytes from the cursor on begin with a number's bytes, it reads the number and leaves the rest.
use Rattle.std.proofs.Common.{◌≡◌, refl, sym, ap, ◌∙◌, ℕ, ◌+◌, ◌^◌, ◌<◌, ◌≤◌, List, ◌++◌, length, take, drop, arith, false, ltb, le-ltb, length-append, take_at, drop_at, drop-drop}
use Rattle.std.specs.Int.{w32, w64, to_le_bytes, from_le_bytes}
use Rattle.std.proofs.lemmas.Nat.{from_le_bytes-to_le_bytes_4, from_le_bytes-to_le_bytes_8}
use Rattle.codec.specs.Bytes.{le}

-- t is what s has from p on.
pub record Rest (s : List ℕ) (p : ℕ) (t : List ℕ) : Type 0 where
  pub is : drop p s ≡ t
  pub size : p + length t ≡ length s

pub start : (s t : List ℕ) → s ≡ t → Rest s 0 t
start s t same = record { is = same; size = omega (arith, ap length same) }

module _ {s : List ℕ} {p : ℕ} (n : ℕ) (xs t : List ℕ) (size : length xs ≡ n) (r : Rest s p (xs ++ t)) where
  pub onward : Rest s (p + n) t
  onward =
      record {
        is = sym (drop-drop n p s) ∙ ap (drop n) r.is ∙ drop_at xs t n size;
        size = omega (arith, r.size, length-append xs t);
      }

  pub front : take n (drop p s) ≡ xs
  front = ap (take n) r.is ∙ take_at xs t n size

  within : p + n ≤ length s
  within = omega (arith, r.size, length-append xs t)

  pub long : ltb (length s) (p + n) ≡ false
  long = le-ltb _ _ within

module _ {s : List ℕ} {p : ℕ} (v : ℕ) (t : List ℕ) where
  pub value_u32 : v < 2 ^ 32 → Rest s p (to_le_bytes w32 v ++ t) → le w32 s p ≡ v
  unfolding le
  value_u32 fits r = ap (from_le_bytes w32) (front 4 (to_le_bytes w32 v) t refl r) ∙ from_le_bytes-to_le_bytes_4 v fits

  pub value_u64 : v < 2 ^ 64 → Rest s p (to_le_bytes w64 v ++ t) → le w64 s p ≡ v
  unfolding le
  value_u64 fits r = ap (from_le_bytes w64) (front 8 (to_le_bytes w64 v) t refl r) ∙ from_le_bytes-to_le_bytes_8 v fits
