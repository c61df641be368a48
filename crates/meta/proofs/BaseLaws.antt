-- The base of a volume record: its writes, and its round trip.
use Rattle.std.proofs.Common.{◌≡◌, refl, sym, ap, ◌∙◌, Bool, true, false, ℕ, ◌%◌, ◌^◌, ◌≤◌, ◌<◌, List, [], ◌∷◌, ◌++◌, length, take, drop, Some, None, Ok, arith, eq-eqb, le-ltb, ltb, ltb-false, length-append}
use Rattle.std.proofs.lemmas.Nat.{from_le_bytes-to_le_bytes_2, from_le_bytes-to_le_bytes_8}
use Rattle.std.proofs.Math.Nat.{mod-eq_of_lt}
use Rattle.std.specs.Prelude.{if◌then◌else◌}
use Rattle.std.specs.Int.{w32, w64, to_le_bytes}
use Rattle.std.specs.List.{concat}
use Rattle.codec.specs.Bytes.{AllBytes, le, le32, le64}
use Rattle.codec.specs.Cursor.{write_row}
use Rattle.codec.proofs.RowLaws.{row_front}
use Rattle.meta.specs.Base.{base_at, base_fields, check_base, decoded_base, decode_base, base_row, base_bytes, AcceptableBase, BasesBack}
use Rattle.meta.specs.declared.meta.VolumeMeta.{VolumeMeta}
use Rattle.meta.proofs.LayoutLaws.{base_layout}
use Rattle.meta.proofs.RoundLaws.{written_8, written_16, written_32, written_64, below_16, below_64, pieces, joined, ◌and◌, after_ok}

pub length_base : (v : VolumeMeta) → length (base_bytes v) ≡ 48
unfolding base_bytes
length_base v = simp length-append (omega arith)

pub base_fits : (v : VolumeMeta) (out : List ℕ) → 48 ≤ length out
    → write_row (base_row v) out (record { pos = 0 }) ≡ (base_bytes v ++ drop 48 out, Some (record { pos = 48 }))
unfolding base_bytes
base_fits v out fits = row_front (base_row v) out 48 (length_base v) fits

-- ---- what is decoded

-- The rules of a base and its reserved bytes.
pub record Passed (v : VolumeMeta) (word tail : ℕ) : Type 0 where
  pub features : v.features ≡ 0
  pub no_word : word ≡ 0
  pub no_tail : tail ≡ 0
  pub block_low : 12 ≤ v.log2_block_size
  pub block_high : v.log2_block_size ≤ 16
  pub table_low : v.log2_block_size ≤ v.log2_table_slot_size
  pub table_high : v.log2_table_slot_size ≤ 16
  pub whole : v.table_offset % 2 ^ v.log2_block_size ≡ 0

pub base_passed : (v : VolumeMeta) (word tail : ℕ) → check_base v word tail ≡ Ok tt → Passed v word tail
unfolding check_base
base_passed v word tail is =
    record { features = grind arith; no_word = grind arith; no_tail = grind arith; block_low = grind arith; block_high = grind arith; table_low = grind arith; table_high = grind arith; whole = grind arith }

pub base_checked : (v : VolumeMeta) → AcceptableBase v → check_base v 0 0 ≡ Ok tt
unfolding check_base
base_checked v a =
    simp (eq-eqb v.features 0 a.no_features, le-ltb _ _ a.block_low, le-ltb _ _ a.block_high, le-ltb _ _ a.table_low, le-ltb _ _ a.table_high, eq-eqb _ 0 a.offset_whole)

-- The fields are those of the bytes, and the checks passed.
pub record Decoded (s : List ℕ) (v : VolumeMeta) : Type 0 where
  pub long : 48 ≤ length s
  pub is : v ≡ base_fields s
  pub passed : Passed (base_fields s) (le32 s 4) (le64 s 40)

pub base_decoded : (s : List ℕ) (v : VolumeMeta) → decode_base s ≡ Ok v → Decoded s v
unfolding decode_base
base_decoded s v is = go (ltb (length s) 48) refl (rw (base_layout s) at is)
  where
    go : (short : Bool) → ltb (length s) 48 ≡ short → decoded_base (if short then None else Some (base_fields s, le32 s 4, le64 s 40)) ≡ Ok v → Decoded s v
    go true test is = let never : ◌≡◌ {A = ℕ} 0 1 = cc in absurd (omega arith)
    go false test is =
        let all = after_ok (check_base (base_fields s) (le32 s 4) (le64 s 40)) is in
        record { long = ltb-false _ _ test; is = cc; passed = base_passed _ _ _ all.0 }

-- ---- the round trip

-- The fields of 48 bytes are written as they were read.
pub base_written : (s : List ℕ) → AllBytes s → 48 ≤ length s → le32 s 4 ≡ 0 → le64 s 40 ≡ 0 → base_bytes (base_fields s) ≡ take 48 s
unfolding base_bytes
base_written s small long word tail =
    let row : base_row (base_fields s) ≡ pieces (1 ∷ 1 ∷ 2 ∷ 4 ∷ 8 ∷ 8 ∷ 8 ∷ 8 ∷ 8 ∷ []) 0 s =
    written_8 s small 0 (omega arith)
    and written_8 s small 1 (omega arith)
    and written_16 s small 2 (omega arith)
    and ap (to_le_bytes w32) (sym word) ∙ written_32 s small 4 (omega arith)
    and written_64 s small 8 (omega arith)
    and written_64 s small 16 (omega arith)
    and written_64 s small 24 (omega arith)
    and written_64 s small 32 (omega arith)
    and ap (to_le_bytes w64) (sym tail) ∙ written_64 s small 40 (omega arith)
    and refl in
    ap concat row ∙ joined (1 ∷ 1 ∷ 2 ∷ 4 ∷ 8 ∷ 8 ∷ 8 ∷ 8 ∷ 8 ∷ []) 0 s

-- Each number of a base fits its width.
pub record Fits (v : VolumeMeta) : Type 0 where
  pub block : v.log2_block_size < 2 ^ 8
  pub table : v.log2_table_slot_size < 2 ^ 8
  pub device : v.device_index < 2 ^ 16
  pub owner : v.owner_generation < 2 ^ 64
  pub offset : v.table_offset < 2 ^ 64
  pub created : v.created_unix_s < 2 ^ 64
  pub features : v.features < 2 ^ 64

pub acceptable_fits : (v : VolumeMeta) → AcceptableBase v → Fits v
acceptable_fits v a =
    record { block = omega (arith, a.block_high); table = omega (arith, a.table_high); device = a.device_fits; owner = a.owner_fits; offset = a.offset_fits; created = a.created_fits; features = omega (arith, a.no_features) }

fields_read : (v : VolumeMeta) (rest : List ℕ) → Fits v → base_fields (base_bytes v ++ rest) ≡ v
unfolding le base_bytes
fields_read v rest f =
    simp (
      mod-eq_of_lt {m = 256} f.block,
      mod-eq_of_lt {m = 256} f.table,
      from_le_bytes-to_le_bytes_2 v.device_index f.device,
      from_le_bytes-to_le_bytes_8 v.owner_generation f.owner,
      from_le_bytes-to_le_bytes_8 v.table_offset f.offset,
      from_le_bytes-to_le_bytes_8 v.created_unix_s f.created,
      from_le_bytes-to_le_bytes_8 v.features f.features,
    )

zeros_read : (v : VolumeMeta) (rest : List ℕ) → (le32 (base_bytes v ++ rest) 4 ≡ 0) × (le64 (base_bytes v ++ rest) 40 ≡ 0)
unfolding le base_bytes
zeros_read v rest = (refl, refl)

-- The fields are read as they were written, and the reserved bytes as zeros.
pub base_read : (v : VolumeMeta) (rest : List ℕ) → Fits v → base_at (base_bytes v ++ rest) ≡ Some (v, 0, 0)
base_read v rest f =
    let long : 48 ≤ length (base_bytes v ++ rest) = omega (arith, length-append (base_bytes v) rest, length_base v) in
    let zeros = zeros_read v rest in
    base_layout (base_bytes v ++ rest) ∙ simp (le-ltb _ 48 long, fields_read v rest f, zeros.0, zeros.1)

base_back : (v : VolumeMeta) (rest : List ℕ) → AcceptableBase v → decode_base (base_bytes v ++ rest) ≡ Ok v
unfolding decode_base
base_back v rest a = rw (base_read v rest (acceptable_fits v a), base_checked v a) refl

-- Decoded fields are acceptable.
pub acceptable_base : (s : List ℕ) → AllBytes s → Passed (base_fields s) (le32 s 4) (le64 s 40) → AcceptableBase (base_fields s)
acceptable_base s small p =
    record {
      block_low = p.block_low;
      block_high = p.block_high;
      table_low = p.table_low;
      table_high = p.table_high;
      offset_whole = p.whole;
      no_features = p.features;
      device_fits = below_16 s small 2;
      owner_fits = below_64 s small 8;
      offset_fits = below_64 s small 16;
      created_fits = below_64 s small 24;
    }

pub bases_back : BasesBack
bases_back =
    record {
      encoded = λ s v small is. let d = base_decoded s v is in ap base_bytes d.is ∙ base_written s small d.long d.passed.no_word d.passed.no_tail;
      accepted = λ s v small is. let d = base_decoded s v is in rw d.is (acceptable_base s small d.passed);
      decoded = base_back;
    }
