-- A block has 4 KiB to 64 KiB, and a table of them ends within 64 bits.
use Rattle.std.proofs.Common.{◌≡◌, ap, ℕ, ◌*◌, ◌^◌, ◌<◌, ◌≤◌, min, max, arith, pow_mono}
use Rattle.std.proofs.Math.Nat.{mul-le-mul_left}
use Rattle.meta.specs.Block.{block_size}

pub block_range : (log2 : ℕ) → (4096 ≤ block_size log2) × (block_size log2 ≤ 65536)
unfolding block_size
block_range log2 =
    let at : ℕ = max 12 (min log2 16) in
    let low : 12 ≤ at = omega arith in
    let high : at ≤ 16 = omega arith in
    let below : 2 ^ 12 ≤ 2 ^ at = pow_mono low in
    let above : 2 ^ at ≤ 2 ^ 16 = pow_mono high in
    (omega arith, omega arith)

-- A table's pages end within 64 bits.
pub table_fits : (pages log2 : ℕ) → pages < 2 ^ 32 → 2 * pages * block_size log2 ≤ 2 ^ 49
table_fits pages log2 small =
    let slot : block_size log2 ≤ 65536 = (block_range log2).1 in
    let most : 2 * pages * block_size log2 ≤ 2 * pages * 65536 = mul-le-mul_left (2 * pages) slot in
    omega arith

-- In the range a block is the power.
pub block_in_range : (log2 : ℕ) → 12 ≤ log2 → log2 ≤ 16 → block_size log2 ≡ 2 ^ log2
unfolding block_size
block_in_range log2 low high = let at : max 12 (min log2 16) ≡ log2 = omega arith in ap (λ (n : ℕ). 2 ^ n) at
