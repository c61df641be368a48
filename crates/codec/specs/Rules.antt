-- The rules of checksum and cursor by rows, spelled on both sides of each bound (docs/FORMAT.md, "Numbers", "The checksum" and "The cursor").
-- The checksums that RFC 3720 does not give were computed by `crc32c.rs`.
use Rattle.std.specs.Prelude.{◌≡◌, List, [], ◌∷◌, ◌++◌, ℕ, map, take, drop, replicate, Option, Some, None}
use Rattle.std.specs.Int.{w8, w16, w32, w64, to_le_bytes}
use Rattle.std.specs.Borrow.{Bor}
use Rattle.codec.specs.Place.{Part}
use Rattle.codec.specs.Crc32c.{crc32c, crc32c_append}
use Rattle.codec.specs.Cursor.{run, number, remaining, Gives, write, write_row, read_refusal, write_refusal}
use Rattle.codec.specs.declared.codec.Reader.{Reader}
use Rattle.codec.specs.declared.codec.Writer.{Writer}

-- ---- the checksum

abbrev pub to_31 : List ℕ
to_31 =
    0 ∷ 1 ∷ 2 ∷ 3 ∷ 4 ∷ 5 ∷ 6 ∷ 7 ∷ 8 ∷ 9 ∷ 10 ∷ 11 ∷ 12 ∷ 13 ∷ 14 ∷ 15 ∷ 16 ∷ 17 ∷ 18 ∷ 19 ∷ 20 ∷ 21 ∷ 22 ∷ 23 ∷ 24 ∷ 25 ∷ 26 ∷ 27 ∷ 28 ∷ 29 ∷ 30
    ∷ 31 ∷ []

abbrev pub from_31 : List ℕ
from_31 =
    31 ∷ 30 ∷ 29 ∷ 28 ∷ 27 ∷ 26 ∷ 25 ∷ 24 ∷ 23 ∷ 22 ∷ 21 ∷ 20 ∷ 19 ∷ 18 ∷ 17 ∷ 16 ∷ 15 ∷ 14 ∷ 13 ∷ 12 ∷ 11 ∷ 10 ∷ 9 ∷ 8 ∷ 7 ∷ 6 ∷ 5 ∷ 4 ∷ 3 ∷ 2 ∷ 1
    ∷ 0 ∷ []

-- A SCSI Read (10) command.
abbrev pub command : List ℕ
command =
    (1 ∷ 0xC0 ∷ replicate 14 0) ++ (0x14 ∷ 0 ∷ 0 ∷ 0 ∷ 0 ∷ 0 ∷ 4 ∷ 0 ∷ []) ++ (0 ∷ 0 ∷ 0 ∷ 0x14 ∷ 0 ∷ 0 ∷ 0 ∷ 0x18 ∷ []) ++ (0x28 ∷ replicate 7 0)
    ++ (2 ∷ replicate 7 0)

-- The digits 1 to 9 as letters.
abbrev pub digits : List ℕ
digits = 49 ∷ 50 ∷ 51 ∷ 52 ∷ 53 ∷ 54 ∷ 55 ∷ 56 ∷ 57 ∷ []

-- The digits in two parts, the checksum of the first k carried on over the others.
abbrev pub joined : ℕ → ℕ
joined k = crc32c_append (crc32c (take k digits)) (drop k digits)

pub record ChecksumRows : Type 0 where
  pub no_bytes : crc32c [] ≡ 0
  -- RFC 3720, B.4; it prints the low byte first.
  pub zeros : crc32c (replicate 32 0) ≡ 0x8A91_36AA
  pub ones : crc32c (replicate 32 255) ≡ 0x62A8_AB43
  pub up : crc32c to_31 ≡ 0x46DD_794E
  pub down : crc32c from_31 ≡ 0x113F_DB5C
  pub read_10 : crc32c command ≡ 0xD996_3A56
  pub nine_digits : crc32c digits ≡ 0xE306_9283
  -- Fewer bytes than the 32 bits that are complemented, as many, and one more.
  pub one_byte : map (λ b. crc32c (b ∷ [])) (0 ∷ 1 ∷ 128 ∷ 255 ∷ []) ≡ 0x527D_5351 ∷ 0xA016_D052 ∷ 0xD08B_6829 ∷ 0xFF00_0000 ∷ []
  pub few_bytes :
      map (λ n. crc32c (take n (1 ∷ 2 ∷ 3 ∷ 4 ∷ 5 ∷ []))) (2 ∷ 3 ∷ 4 ∷ 5 ∷ []) ≡ 0x03F8_9F52 ∷ 0xF130_F21E ∷ 0x2930_8CF4 ∷ 0x5351_8FAB ∷ []
  -- Carried on: at each place of a message, over no bytes, and from any number.
  pub splits : map joined (0 ∷ 1 ∷ 2 ∷ 3 ∷ 4 ∷ 5 ∷ 6 ∷ 7 ∷ 8 ∷ 9 ∷ []) ≡ replicate 10 0xE306_9283
  pub over_none :
      map (λ c. crc32c_append c []) (0 ∷ 1 ∷ 0x8000_0000 ∷ 0xFFFF_FFFF ∷ []) ≡ 0 ∷ 1 ∷ 0x8000_0000 ∷ 0xFFFF_FFFF ∷ []
  pub over_three :
      map (λ c. crc32c_append c (1 ∷ 2 ∷ 3 ∷ [])) (0 ∷ 1 ∷ 0x8000_0000 ∷ 0xFFFF_FFFF ∷ [])
      ≡ 0xF130_F21E ∷ 0x5471_6060 ∷ 0xF130_F29E ∷ 0x6EAB_AE9B ∷ []
  pub over_five :
      map (λ c. crc32c_append c (replicate 5 0)) (1 ∷ 0x8000_0000 ∷ 0xFFFF_FFFF ∷ []) ≡ 0x7D63_1999 ∷ 0xBEB1_8CCC ∷ 0xFFFF_FFFF ∷ []

-- ---- reading

abbrev pub eight : List ℕ
eight = 1 ∷ 2 ∷ 3 ∷ 4 ∷ 5 ∷ 6 ∷ 7 ∷ 8 ∷ []

abbrev pub highest : ℕ
highest = 0xFFFF_FFFF_FFFF_FFFF

abbrev pub at : ℕ → Reader
at k = record { pos = k }

-- The bytes or the number at k, and where the cursor is after it.
abbrev pub bytes_at : (n k : ℕ) → Option (List ℕ × Reader)
bytes_at n k = run n eight (at k)

pub record ReadRows : Type 0 where
  -- A step that ends before the end, at it, and one past it.
  pub before : bytes_at 3 2 ≡ Some (3 ∷ 4 ∷ 5 ∷ [], at 5)
  pub to_the_end : bytes_at 3 5 ≡ Some (6 ∷ 7 ∷ 8 ∷ [], at 8)
  pub one_past : bytes_at 3 6 ∷ bytes_at 1 8 ∷ bytes_at 9 0 ∷ [] ≡ None ∷ None ∷ None ∷ []
  pub all : bytes_at 8 0 ≡ Some (eight, at 8)
  -- Over no bytes: at the end, and past it.
  pub over_none : bytes_at 0 0 ∷ bytes_at 0 8 ∷ bytes_at 0 9 ∷ bytes_at 0 highest ∷ [] ≡ Some ([], at 0) ∷ Some ([], at 8) ∷ None ∷ None ∷ []
  -- Position and length together above 2^64 - 1.
  pub nothing_wraps : bytes_at 1 highest ∷ bytes_at highest 1 ∷ bytes_at highest highest ∷ [] ≡ None ∷ None ∷ None ∷ []
  pub one_byte : map (λ k. number w8 eight (at k)) (0 ∷ 7 ∷ 8 ∷ 9 ∷ highest ∷ []) ≡ Some (1, at 1) ∷ Some (8, at 8) ∷ None ∷ None ∷ None ∷ []
  pub two_bytes :
      map (λ k. number w16 eight (at k)) (0 ∷ 6 ∷ 7 ∷ 9 ∷ highest ∷ []) ≡ Some (0x0201, at 2) ∷ Some (0x0807, at 8) ∷ None ∷ None ∷ None ∷ []
  pub four_bytes :
      map (λ k. number w32 eight (at k)) (0 ∷ 4 ∷ 5 ∷ 9 ∷ highest ∷ [])
      ≡ Some (0x0403_0201, at 4) ∷ Some (0x0807_0605, at 8) ∷ None ∷ None ∷ None ∷ []
  pub eight_bytes :
      map (λ k. number w64 eight (at k)) (0 ∷ 1 ∷ 9 ∷ highest ∷ []) ≡ Some (0x0807_0605_0403_0201, at 8) ∷ None ∷ None ∷ None ∷ []
  pub left : map (λ k. remaining eight (at k)) (0 ∷ 3 ∷ 7 ∷ 8 ∷ 9 ∷ highest ∷ []) ≡ 8 ∷ 5 ∷ 1 ∷ 0 ∷ 0 ∷ 0 ∷ []
  pub refusals : map read_refusal (bytes_at 3 5 ∷ bytes_at 3 6 ∷ bytes_at 0 8 ∷ bytes_at 0 9 ∷ []) ≡ 0 ∷ 6 ∷ 0 ∷ 6 ∷ []
  -- The bytes that are lent are those of the buffer, at the cursor.
  pub lent :
      (x : Bor (List ℕ)) (given : Bor (List ℕ) × Reader) → Gives x 2 3 (Some given) (bytes_at 3 2)
      → (given.0.now ≡ 3 ∷ 4 ∷ 5 ∷ []) × (given.1 ≡ at 5) × Part x 2 3 given.0

-- ---- writing

abbrev pub put_at : ℕ → Writer
put_at k = record { pos = k }

-- Bytes written into four zeros at k: the buffer, and where the cursor is after them.
abbrev pub written : List ℕ → ℕ → List ℕ × Option Writer
written bytes k = write bytes (replicate 4 0) (put_at k)

-- A write that is refused: no byte changes.
abbrev pub refused : List ℕ × Option Writer
refused = (replicate 4 0, None)

pub record WriteRows : Type 0 where
  pub first : written (7 ∷ 8 ∷ []) 0 ≡ (7 ∷ 8 ∷ 0 ∷ 0 ∷ [], Some (put_at 2))
  pub before : written (7 ∷ 8 ∷ []) 1 ≡ (0 ∷ 7 ∷ 8 ∷ 0 ∷ [], Some (put_at 3))
  pub to_the_end : written (7 ∷ 8 ∷ []) 2 ≡ (0 ∷ 0 ∷ 7 ∷ 8 ∷ [], Some (put_at 4))
  pub one_past : written (7 ∷ 8 ∷ []) 3 ∷ written (7 ∷ []) 4 ∷ written (7 ∷ 7 ∷ 7 ∷ 7 ∷ 7 ∷ []) 0 ∷ [] ≡ replicate 3 refused
  pub over_none :
      written [] 0 ∷ written [] 4 ∷ written [] 5 ∷ written [] highest ∷ []
      ≡ (replicate 4 0, Some (put_at 0)) ∷ (replicate 4 0, Some (put_at 4)) ∷ refused ∷ refused ∷ []
  pub nothing_wraps : written (7 ∷ []) highest ∷ written (7 ∷ 8 ∷ []) 0xFFFF_FFFF_FFFF_FFFE ∷ [] ≡ refused ∷ refused ∷ []
  pub numbers :
      map (λ n. write n (replicate 9 255) (put_at 0))
      (to_le_bytes w8 1 ∷ to_le_bytes w16 0x0201 ∷ to_le_bytes w32 0x0403_0201 ∷ to_le_bytes w64 0x0807_0605_0403_0201 ∷ [])
      ≡ (1 ∷ replicate 8 255, Some (put_at 1)) ∷ (1 ∷ 2 ∷ replicate 7 255, Some (put_at 2))
      ∷ (1 ∷ 2 ∷ 3 ∷ 4 ∷ replicate 5 255, Some (put_at 4)) ∷ (eight ++ 255 ∷ [], Some (put_at 8)) ∷ []
  -- A row of writes ends at the first that is refused, and keeps what was written before it.
  pub row : write_row ((1 ∷ 2 ∷ []) ∷ (3 ∷ []) ∷ (4 ∷ []) ∷ []) (replicate 4 0) (put_at 0) ≡ (1 ∷ 2 ∷ 3 ∷ 4 ∷ [], Some (put_at 4))
  pub row_of_none : write_row [] (replicate 4 0) (put_at 5) ≡ (replicate 4 0, Some (put_at 5))
  pub row_ended : write_row ((1 ∷ 2 ∷ []) ∷ (3 ∷ 4 ∷ 5 ∷ []) ∷ (6 ∷ []) ∷ []) (replicate 4 0) (put_at 0) ≡ (1 ∷ 2 ∷ 0 ∷ 0 ∷ [], None)
  pub refusals :
      map (λ (w : List ℕ × Option Writer). write_refusal w.1) (written (7 ∷ 8 ∷ []) 2 ∷ written (7 ∷ 8 ∷ []) 3 ∷ written [] 4 ∷ written [] 5 ∷ [])
      ≡ 0 ∷ 7 ∷ 0 ∷ 7 ∷ []
