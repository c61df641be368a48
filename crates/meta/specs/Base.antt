-- The 48 bytes of the volume record that both formats have (docs/FORMAT.md, "The volume record", and "Refusals" of its base): the
-- fields one after the other, the checks in their order, and the bytes as they are written.
use Rattle.std.specs.Prelude.{◌≡◌, not, ◌||◌, ℕ, ◌%◌, ◌^◌, ◌≤◌, ◌<◌, ◌==◌, nat_lt, if◌then◌else◌, List, [], ◌∷◌, ◌++◌, length, take, drop, replicate, Option, Some, None, Result, Ok, Err}
use Rattle.std.specs.Int.{w8, w16, w32, w64, to_le_bytes}
use Rattle.std.specs.List.{concat}
use Rattle.codec.specs.Bytes.{AllBytes, le, le16, le32, le64}
use Rattle.codec.specs.Cursor.{◌>>=◌, number}
use Rattle.meta.specs.declared.meta.Field.{Field}
use Rattle.meta.specs.declared.meta.MetaError.{MetaError}
use Rattle.meta.specs.declared.meta.VolumeMeta.{VolumeMeta}
use Rattle.meta.specs.Error.{refused, after}

-- The fields, then the reserved word at 4 and the reserved bytes at 40.
unfoldable pub base_at : List ℕ → Option (VolumeMeta × ℕ × ℕ)
base_at s = do
  log2_block ← number w8 s (record { pos = 0 })
  log2_table ← number w8 s log2_block.1
  device ← number w16 s log2_table.1
  reserved_word ← number w32 s device.1
  owner ← number w64 s reserved_word.1
  offset ← number w64 s owner.1
  created ← number w64 s offset.1
  features ← number w64 s created.1
  reserved_tail ← number w64 s features.1
  Some (
    record {
      log2_block_size = log2_block.0;
      log2_table_slot_size = log2_table.0;
      device_index = device.0;
      owner_generation = owner.0;
      table_offset = offset.0;
      created_unix_s = created.0;
      features = features.0;
    },
    reserved_word.0,
    reserved_tail.0,
  )

-- The same by offsets.
abbrev pub base_fields : List ℕ → VolumeMeta
base_fields s =
    record {
      log2_block_size = le w8 s 0;
      log2_table_slot_size = le w8 s 1;
      device_index = le16 s 2;
      owner_generation = le64 s 8;
      table_offset = le64 s 16;
      created_unix_s = le64 s 24;
      features = le64 s 32;
    }

abbrev pub BaseLayout : Type 0
BaseLayout = (s : List ℕ) → base_at s ≡ (if nat_lt (length s) 48 then None else Some (base_fields s, le32 s 4, le64 s 40))

-- 20 features; 22 zeros at 4, 40; 23 log2 block outside 12..16; 24 log2 table outside block..16; 13 table offset not whole blocks.
unfoldable pub check_base : VolumeMeta → ℕ → ℕ → Result (Unit {0}) MetaError
check_base v reserved_word reserved_tail =
    if not (v.features == 0) then refused Field.Features
    else if not (reserved_word == 0) || not (reserved_tail == 0) then refused Field.Reserved
    else if nat_lt v.log2_block_size 12 || nat_lt 16 v.log2_block_size then refused Field.Log2BlockSize
    else if nat_lt v.log2_table_slot_size v.log2_block_size || nat_lt 16 v.log2_table_slot_size then refused Field.Log2TableSlotSize
    else if not (v.table_offset % 2 ^ v.log2_block_size == 0) then Err MetaError.Unaligned
    else Ok tt

abbrev pub decoded_base : Option (VolumeMeta × ℕ × ℕ) → Result VolumeMeta MetaError
decoded_base (Some read) = after (check_base read.0 read.1 read.2) (Ok read.0)
decoded_base None = Err MetaError.Length

-- 11 below 48 bytes; then the checks.
unfoldable pub decode_base : List ℕ → Result VolumeMeta MetaError
decode_base s = decoded_base (base_at s)

-- The record as it is written, zeros at 4 and 40.
abbrev pub base_row : VolumeMeta → List (List ℕ)
base_row v =
    to_le_bytes w8 v.log2_block_size
    ∷ to_le_bytes w8 v.log2_table_slot_size
    ∷ to_le_bytes w16 v.device_index
    ∷ to_le_bytes w32 0
    ∷ to_le_bytes w64 v.owner_generation
    ∷ to_le_bytes w64 v.table_offset
    ∷ to_le_bytes w64 v.created_unix_s
    ∷ to_le_bytes w64 v.features
    ∷ replicate 8 0
    ∷ []

unfoldable pub base_bytes : VolumeMeta → List ℕ
base_bytes v = concat (base_row v)

-- The buffer afterwards and the answer: 11 for a buffer below 48 bytes, which is kept.
unfoldable pub encode_base : VolumeMeta → List ℕ → List ℕ × Result ℕ MetaError
encode_base v out = if nat_lt (length out) 48 then (out, Err MetaError.Length) else (base_bytes v ++ drop 48 out, Ok 48)

-- What a base must hold to be decoded; each number then fits its width.
pub record AcceptableBase (v : VolumeMeta) : Type 0 where
  pub block_low : 12 ≤ v.log2_block_size
  pub block_high : v.log2_block_size ≤ 16
  pub table_low : v.log2_block_size ≤ v.log2_table_slot_size
  pub table_high : v.log2_table_slot_size ≤ 16
  pub offset_whole : v.table_offset % 2 ^ v.log2_block_size ≡ 0
  pub no_features : v.features ≡ 0
  pub device_fits : v.device_index < 2 ^ 16
  pub owner_fits : v.owner_generation < 2 ^ 64
  pub offset_fits : v.table_offset < 2 ^ 64
  pub created_fits : v.created_unix_s < 2 ^ 64

-- A base that was decoded is encoded to the same bytes and is acceptable; an acceptable one is decoded from its bytes, whatever follows.
pub record BasesBack : Type 0 where
  pub encoded : (s : List ℕ) (v : VolumeMeta) → AllBytes s → decode_base s ≡ Ok v → base_bytes v ≡ take 48 s
  pub accepted : (s : List ℕ) (v : VolumeMeta) → AllBytes s → decode_base s ≡ Ok v → AcceptableBase v
  pub decoded : (v : VolumeMeta) (rest : List ℕ) → AcceptableBase v → decode_base (base_bytes v ++ rest) ≡ Ok v
