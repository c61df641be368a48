-- What `encode` writes is bytes, and a number that is read from bytes is below the power of its width.
use Rattle.std.proofs.Common.{◌≡◌, refl, List, [], ◌∷◌, ◌++◌, ℕ, zero, suc, ◌-◌, ◌^◌, ◌<◌, nat_lt, ltb-true, arith, length, drop, replicate, lit<, true}
use Rattle.std.specs.List.{concat, list_all}
use Rattle.codec.specs.Bytes.{AllBytes, le, le32, le64}
use Rattle.codec.specs.Crc32c.{crc32c}
use Rattle.codec.proofs.ByteLaws.{take-bytes, drop-bytes, append-bytes, zero-bytes, number_bytes}
use Rattle.slot.specs.Status.{index_number}
use Rattle.slot.specs.Header.{magic}
use Rattle.slot.specs.Write.{header_row, header_bytes, header_crc, written_header, slot_bytes}
use Rattle.slot.specs.declared.slot.SlotFields.{SlotFields}
use Rattle.slot.proofs.Tests.{both}

-- ---- written

pub bytes_tested : (s : List ℕ) → list_all (λ b. nat_lt b 256) s ≡ true → AllBytes s
bytes_tested [] test i = lit< tt
bytes_tested (x ∷ s) test zero = ltb-true x 256 (both _ _ test).0
bytes_tested (x ∷ s) test (suc i) = bytes_tested s (both _ _ test).1 i

-- Each piece of a row is bytes.
abbrev pub RowBytes : List (List ℕ) → Type 0
RowBytes [] = Unit {0}
RowBytes (vs ∷ row) = AllBytes vs × RowBytes row

pub row_bytes : (row : List (List ℕ)) → RowBytes row → AllBytes (concat row)
row_bytes [] all = zero-bytes 0
row_bytes (vs ∷ row) all = append-bytes vs (concat row) all.0 (row_bytes row all.1)

header_all_bytes : (crc : ℕ) (f : SlotFields) (n sum : ℕ) → AllBytes f.volume_uuid → AllBytes (header_bytes crc f n sum)
unfolding header_bytes
header_all_bytes crc f n sum volume =
    row_bytes (header_row crc f n sum) (
      bytes_tested magic refl,
      (
        number_bytes 0 4 crc,
        (
          number_bytes 0 2 128,
          (
            number_bytes 0 2 f.format_major,
            (
              number_bytes 0 4 0,
              (
                number_bytes 0 4 0,
                (
                  number_bytes 0 4 f.compat_flags,
                  (
                    number_bytes 0 4 sum,
                    (
                      volume,
                      (
                        number_bytes 0 8 f.object_id,
                        (
                          number_bytes 0 8 f.generation,
                          (
                            number_bytes 0 8 f.slot_offset,
                            (
                              number_bytes 0 4 n,
                              (
                                number_bytes 0 1 (index_number f.slot_index),
                                (
                                  number_bytes 0 1 2,
                                  (
                                    number_bytes 0 1 f.log2_slot_size,
                                    (
                                      number_bytes 0 1 0,
                                      (
                                        number_bytes 0 4 f.prev_header_crc32c,
                                        (
                                          number_bytes 0 4 0,
                                          (number_bytes 0 8 f.owner_generation, (number_bytes 0 8 f.meta_seq, (zero-bytes 24, tt))),
                                        ),
                                      ),
                                    ),
                                  ),
                                ),
                              ),
                            ),
                          ),
                        ),
                      ),
                    ),
                  ),
                ),
              ),
            ),
          ),
        ),
      ),
    )

pub slot_all_bytes : (f : SlotFields) (payload : List ℕ) → AllBytes f.volume_uuid → AllBytes payload → AllBytes (slot_bytes f payload)
unfolding slot_bytes written_header
slot_all_bytes f payload volume all =
    let padding : List ℕ = replicate (2 ^ f.log2_slot_size - 128 - length payload) 0 in
    append-bytes (written_header f payload) (payload ++ padding)
    (header_all_bytes (header_crc f payload) f (length payload) (crc32c payload) volume)
    (append-bytes payload padding all (zero-bytes (2 ^ f.log2_slot_size - 128 - length payload)))

-- ---- read

module _ (s : List ℕ) (all : AllBytes s) (i : ℕ) where
  pub le32_lt : le32 s i < 2 ^ 32
  unfolding le
  le32_lt =
      let b = take-bytes 4 (drop i s) (drop-bytes i s all) in
      omega (arith, b 0, b 1, b 2, b 3)

  pub le64_lt : le64 s i < 2 ^ 64
  unfolding le
  le64_lt =
      let b = take-bytes 8 (drop i s) (drop-bytes i s all) in
      omega (arith, b 0, b 1, b 2, b 3, b 4, b 5, b 6, b 7)
