-- A written header, whatever follows it: its length, its fields read back by their offsets, and its checksum.
use Rattle.std.proofs.Common.{◌≡◌, refl, sym, ap, ◌∙◌, List, ◌++◌, append_assoc, ℕ, ◌+◌, ◌^◌, ◌<◌, length, take, drop, replicate, length-append, take_at, drop_at, drop-drop, arith}
use Rattle.std.specs.List.{concat}
use Rattle.std.specs.Int.{Width, w8, w32, w64, byte_len, from_le_bytes}
use Rattle.std.proofs.lemmas.Nat.{from_le_bytes-to_le_bytes_2, from_le_bytes-to_le_bytes_4, from_le_bytes-to_le_bytes_8}
use Rattle.std.proofs.Math.Nat.{mod-eq_of_lt}
use Rattle.codec.specs.Bytes.{le}
use Rattle.codec.specs.Crc32c.{crc32c}
use Rattle.slot.specs.Status.{index_number}
use Rattle.slot.specs.Header.{header}
use Rattle.slot.specs.Read.{header_sum}
use Rattle.slot.specs.Write.{header_row, header_bytes}
use Rattle.slot.specs.Laws.{Fits, stored_header}
use Rattle.slot.specs.declared.slot.SlotIndex.{SlotIndex}
use Rattle.slot.specs.declared.slot.SlotFields.{SlotFields}

pub length_header : (crc : ℕ) (f : SlotFields) (n payload_crc : ℕ) → length f.volume_uuid ≡ 16 → length (header_bytes crc f n payload_crc) ≡ 128
unfolding header_bytes
length_header crc f n payload_crc volume = simp (length-append, volume)

index_small : (i : SlotIndex) → index_number i < 2 ^ 8
index_small SlotIndex.A = omega arith
index_small SlotIndex.B = omega arith

module _ (crc : ℕ) (f : SlotFields) (n payload_crc : ℕ) (rest : List ℕ) (volume : length f.volume_uuid ≡ 16) where
  abbrev s : List ℕ
  s = header_bytes crc f n payload_crc ++ rest

  -- The fields after the volume's, from offset 48 on.
  abbrev last : List ℕ
  last = concat (drop 9 (header_row crc f n payload_crc))

  abbrev first : List ℕ
  first = concat (take 8 (header_row crc f n payload_crc)) ++ f.volume_uuid

  parts : s ≡ first ++ (last ++ rest)
  unfolding header_bytes
  parts = ap (λ (l : List ℕ). concat (take 8 (header_row crc f n payload_crc)) ++ l) (append_assoc f.volume_uuid last rest)

  behind : (k : ℕ) → drop (48 + k) s ≡ drop k (last ++ rest)
  behind k =
      sym (drop-drop k 48 s)
      ∙ ap (drop k) (ap (drop 48) parts ∙ drop_at first (last ++ rest) 48 (simp volume))

  number_at : (w : Width) (k v : ℕ) → from_le_bytes w (take (byte_len w) (drop k (last ++ rest))) ≡ v → le w s (48 + k) ≡ v
  unfolding le
  number_at w k v is = ap (λ (l : List ℕ). from_le_bytes w (take (byte_len w) l)) (behind k) ∙ is

  -- The checksum counts its own field as zero, and nothing after the header.
  pub sum_written : header_sum s 128 ≡ crc32c (header_bytes 0 f n payload_crc)
  unfolding header_sum header_bytes
  sum_written =
      ap (λ (l : List ℕ). crc32c (take 8 s ++ replicate 4 0 ++ (take 20 (drop 12 s) ++ l)))
      (take_at (f.volume_uuid ++ last) rest 96 (simp (length-append, volume)))

  pub header_written : Fits f → crc < 2 ^ 32 → n < 2 ^ 32 → payload_crc < 2 ^ 32 → header s ≡ stored_header crc f n payload_crc
  unfolding header_bytes le
  header_written fits crc_fits n_fits payload_fits =
      let run : take 16 (drop 32 s) ≡ f.volume_uuid = ap (take 16) (append_assoc f.volume_uuid last rest) ∙ take_at f.volume_uuid (last ++ rest) 16 volume in
      let zeros : take 24 (drop 104 s) ≡ replicate 24 0 = ap (take 24) (behind 56) in
      let index : le w8 s 76 ≡ index_number f.slot_index = number_at w8 28 _ (mod-eq_of_lt {m = 256} (index_small f.slot_index)) in
      let log2 : le w8 s 78 ≡ f.log2_slot_size = number_at w8 30 _ (mod-eq_of_lt {m = 256} fits.log2) in
      cc (
        from_le_bytes-to_le_bytes_4 crc crc_fits,
        from_le_bytes-to_le_bytes_2 f.format_major fits.format,
        from_le_bytes-to_le_bytes_4 f.compat_flags fits.compat,
        from_le_bytes-to_le_bytes_4 payload_crc payload_fits,
        run,
        number_at w64 0 f.object_id (from_le_bytes-to_le_bytes_8 f.object_id fits.object),
        number_at w64 8 f.generation (from_le_bytes-to_le_bytes_8 f.generation fits.generation),
        number_at w64 16 f.slot_offset (from_le_bytes-to_le_bytes_8 f.slot_offset fits.offset),
        number_at w32 24 n (from_le_bytes-to_le_bytes_4 n n_fits),
        index,
        number_at w8 29 2 refl,
        log2,
        number_at w8 31 0 refl,
        number_at w32 32 f.prev_header_crc32c (from_le_bytes-to_le_bytes_4 f.prev_header_crc32c fits.prev),
        number_at w32 36 0 refl,
        number_at w64 40 f.owner_generation (from_le_bytes-to_le_bytes_8 f.owner_generation fits.owner),
        number_at w64 48 f.meta_seq (from_le_bytes-to_le_bytes_8 f.meta_seq fits.number),
        zeros,
      )
