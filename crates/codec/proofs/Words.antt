-- Eight bytes at once: their number is added to the register and 64 steps of the division are made, which go byte by byte over the tables.
use Rattle.std.proofs.Common.{◌≡◌, refl, sym, ap, ap₂, ◌∙◌, List, [], ◌∷◌, ℕ, zero, suc, ◌+◌, ◌*◌, ◌^◌, ◌<◌, arith, le_of_suc-le-suc, not-suc-le-zero, replicate, length, get_or, take, drop, take-append-drop, drop-drop, bit_xor}
use Rattle.std.proofs.lemmas.List.{replicate-append-replicate}
use Rattle.std.specs.Int.Bits.{xor_assoc}
use lib.Bits.{xor_comm, xor_zero_r}
use Rattle.std.specs.Int.{w64, to_le_bytes}
use Rattle.std.specs.Simd.{first_chunks}
use Rattle.codec.specs.Register.{bit_steps, byte_step, register}
use Rattle.codec.proofs.ByteLaws.{number_bytes}
use Rattle.codec.proofs.Message.{message-le64}
use Rattle.codec.proofs.ShiftRegister.{bit_steps-xor, bit_steps-add, register-append, bit_register, bit_register-bits, register-bits}

-- ---- eight bytes

pub register-le64 : (r v : ℕ) → v < 2 ^ 64 → register r (to_le_bytes w64 v) ≡ bit_steps 64 (bit_xor r v)
register-le64 r v fits =
    register-bits r (to_le_bytes w64 v) (number_bytes 0 8 v) ∙ ap (bit_register r) (message-le64 v) ∙ bit_register-bits 64 r v fits

-- What the bytes add to the register: each what the steps of itself and of those after it make of it.
abbrev pub parts : List ℕ → ℕ
parts [] = 0
parts (b ∷ bs) = bit_xor (parts bs) (bit_steps (8 * suc (length bs)) b)

register-parts : (r : ℕ) (bs : List ℕ) → register r bs ≡ bit_xor (parts bs) (bit_steps (8 * length bs) r)
unfolding bit_steps byte_step
register-parts r [] = refl
register-parts r (b ∷ bs) =
    register-parts (bit_steps 8 (bit_xor r b)) bs
    ∙ ap (bit_xor (parts bs))
    (bit_steps-add 8 (8 * length bs) (bit_xor r b)
    ∙ ap₂ bit_steps count (xor_comm r b)
    ∙ bit_steps-xor (8 * suc (length bs)) b r)
    ∙ sym (xor_assoc (parts bs) (bit_steps (8 * suc (length bs)) b) (bit_steps (8 * suc (length bs)) r))
  where
    count : 8 + 8 * length bs ≡ 8 * suc (length bs)
    count = omega arith

-- 64 steps of a number go byte by byte.
pub steps-parts : (v : ℕ) → v < 2 ^ 64 → parts (to_le_bytes w64 v) ≡ bit_steps 64 v
unfolding bit_steps
steps-parts v fits =
    sym (xor_zero_r (parts (to_le_bytes w64 v))) ∙ sym (register-parts 0 (to_le_bytes w64 v)) ∙ register-le64 0 v fits

pub steps-zeros : (r : ℕ) → bit_steps 64 r ≡ register r (replicate 8 0)
steps-zeros r = ap (bit_steps 64) (sym (xor_zero_r r)) ∙ sym (register-le64 r 0 (omega arith))

-- ---- loops, eight bytes at a time

chunk-at : (n k : ℕ) (l : List ℕ) → k < n → get_or (first_chunks 8 n l) k [] ≡ take 8 (drop (8 * k) l)
chunk-at zero k l inside = absurd (not-suc-le-zero inside)
chunk-at (suc n) zero l inside = refl
chunk-at (suc n) (suc k) l inside =
    chunk-at n k (drop 8 l) (le_of_suc-le-suc inside) ∙ ap (take 8) (drop-drop (8 * k) 8 l ∙ ap (λ (m : ℕ). drop m l) count)
  where
    count : 8 + 8 * k ≡ 8 * suc k
    count = omega arith

pub eight-next : (l : List ℕ) (n k r s x : ℕ) → k < n → s ≡ register r (get_or (first_chunks 8 n l) k [])
    → register r (drop (8 * k) l) ≡ x → register s (drop (8 * (k + 1)) l) ≡ x
eight-next l n k r s x inside stepped left =
    ap₂ register (stepped ∙ ap (register r) (chunk-at n k l inside))
    (ap (λ (m : ℕ). drop m l) count ∙ sym (drop-drop 8 (8 * k) l))
    ∙ sym (register-append r (take 8 (drop (8 * k) l)) (drop 8 (drop (8 * k) l)))
    ∙ ap (register r) (take-append-drop 8 (drop (8 * k) l))
    ∙ left
  where
    count : 8 * (k + 1) ≡ 8 * k + 8
    count = omega arith

-- Of n zeros, k are taken and m are left.
pub zeros-next : (k n m r s x : ℕ) → k + m ≡ n → s ≡ register r (replicate k 0)
    → register r (replicate n 0) ≡ x → register s (replicate m 0) ≡ x
zeros-next k n m r s x taken stepped left =
    ap (λ (q : ℕ). register q (replicate m 0)) stepped
    ∙ sym (register-append r (replicate k 0) (replicate m 0))
    ∙ ap (register r) (replicate-append-replicate k m 0 ∙ ap (λ (j : ℕ). replicate j 0) taken)
    ∙ left
