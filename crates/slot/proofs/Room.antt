-- A slot of the expected length has room for a header, and a payload in it a length of 32 bits.
use Rattle.std.proofs.Common.{◌≡◌, sym, ◌∙◌, take, ℕ, ◌^◌, ◌≤◌, ◌&&◌, true, List, length, leb, eqb, leb-true, eqb-true, arith, pow_mono}
use Rattle.std.specs.Prelude.{nat_eq}
use lib.Pointwise.{pointwise, bytes_decides}
use Rattle.slot.specs.Header.{magic}
use Rattle.slot.specs.Read.{is_slot_length, header_sum, passes_checksum}
use Rattle.slot.specs.declared.header.Header.{Header}
use Rattle.slot.proofs.Tests.{both}

pub power_room : (len log2 : ℕ) → len ≡ 2 ^ log2 → 9 ≤ log2 → log2 ≤ 16 → (512 ≤ len) × (len ≤ 65536)
power_room len log2 is low high =
    let above : 2 ^ 9 ≤ 2 ^ log2 = pow_mono low in
    let below : 2 ^ log2 ≤ 2 ^ 16 = pow_mono high in
    (omega arith, omega arith)

-- What is known of a slot's length.
pub slot_length : (len log2 : ℕ) → is_slot_length len log2 ≡ true → (9 ≤ log2) × (log2 ≤ 16) × (len ≡ 2 ^ log2)
unfolding is_slot_length
slot_length len log2 is =
    let all = both (leb 9 log2 && leb log2 16) (eqb len (2 ^ log2)) is in
    let range = both (leb 9 log2) (leb log2 16) all.0 in
    (leb-true _ _ range.0, leb-true _ _ range.1, eqb-true _ _ all.1)

pub room : (len log2 : ℕ) → is_slot_length len log2 ≡ true → 512 ≤ len
room len log2 is = let known = slot_length len log2 is in (power_room len log2 known.2 known.0 known.1).0

-- A header that passes its checksum lies within the slot.
pub passes_within : (s : List ℕ) (h : Header) → passes_checksum s h ≡ true → h.header_len ≤ length s
unfolding passes_checksum
passes_within s h is =
    let range = (both (leb 128 h.header_len && leb h.header_len (length s)) (eqb (header_sum s h.header_len) h.header_crc32c) is).0 in
    leb-true _ _ (both (leb 128 h.header_len) (leb h.header_len (length s)) range).1

-- A magic that was compared stands in the slot that it was read of.
pub stands : (s magic_read : List ℕ) → magic_read ≡ take 8 s → pointwise nat_eq magic_read magic ≡ true → take 8 s ≡ magic
stands s magic_read is same = sym is ∙ (bytes_decides magic_read magic).0 same
