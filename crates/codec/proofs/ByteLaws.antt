-- Lists of bytes: parts and joins of bytes and what is written of a number are bytes, and lists that agree in front agree in what is read
-- there.
use Rattle.std.proofs.Common.{◌≡◌, sym, ap, ◌∙◌, List, [], ◌∷◌, ◌++◌, ℕ, zero, suc, ◌+◌, ◌≤◌, arith, lit<, take, drop, replicate, take-take, get_or-drop}
use Rattle.std.proofs.lemmas.List.{drop-take}
use Rattle.std.specs.Int.{Width, byte_len, from_le_bytes, bytes_low_first}
use Rattle.codec.specs.Bytes.{AllBytes, le}

pub take-bytes : (n : ℕ) (s : List ℕ) → AllBytes s → AllBytes (take n s)
take-bytes zero s small i = lit< tt
take-bytes (suc n) [] small i = lit< tt
take-bytes (suc n) (x ∷ s) small zero = small 0
take-bytes (suc n) (x ∷ s) small (suc i) = take-bytes n s (λ k. small (suc k)) i

pub drop-bytes : (n : ℕ) (s : List ℕ) → AllBytes s → AllBytes (drop n s)
drop-bytes n s small i = rw get_or-drop (small (n + i))

-- That joins, zeros and what is written of a number are bytes, the library has not: `AllBytes` is of this crate.
pub append-bytes : (s t : List ℕ) → AllBytes s → AllBytes t → AllBytes (s ++ t)
append-bytes [] t small rest i = rest i
append-bytes (x ∷ s) t small rest zero = small 0
append-bytes (x ∷ s) t small rest (suc i) = append-bytes s t (λ k. small (suc k)) rest i

pub zero-bytes : (n : ℕ) → AllBytes (replicate n 0)
zero-bytes zero i = lit< tt
zero-bytes (suc n) zero = lit< tt
zero-bytes (suc n) (suc i) = zero-bytes n i

pub number_bytes : (i k n : ℕ) → AllBytes (bytes_low_first i k n)
number_bytes i zero n j = lit< tt
number_bytes zero (suc k) n zero = omega arith
number_bytes (suc i) (suc k) n zero = omega arith
number_bytes i (suc k) n (suc j) = number_bytes (suc i) k n j

-- Lists that agree in their first m bytes agree in what is read of them there.
module _ (m : ℕ) (s t : List ℕ) (agree : take m s ≡ take m t) where
  pub agree-front : (n : ℕ) → n ≤ m → take n s ≡ take n t
  agree-front n within = sym (take-take n m s within) ∙ ap (take n) agree ∙ take-take n m t within

  pub agree-run : (k n : ℕ) → k + n ≤ m → take n (drop k s) ≡ take n (drop k t)
  agree-run k n within = sym (drop-take k n s) ∙ ap (drop k) (agree-front (k + n) within) ∙ drop-take k n t

  pub agree-number : (w : Width) (i : ℕ) → i + byte_len w ≤ m → le w s i ≡ le w t i
  unfolding le
  agree-number w i within = ap (from_le_bytes w) (agree-run i (byte_len w) within)
