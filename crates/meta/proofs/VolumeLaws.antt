-- The volume record: its writes, and its round trip.
use Rattle.std.proofs.Common.{◌≡◌, refl, sym, ap, ap₂, ◌∙◌, Bool, true, false, not, ◌==◌, ℕ, zero, suc, ◌*◌, ◌%◌, ◌^◌, ◌≤◌, ◌<◌, List, [], ◌∷◌, ◌++◌, length, drop, Option, Some, None, Ok, arith, eq-eqb, eqb-true, ne_eqb, le-ltb, lit≤, nat_lt, length-append, length-drop, take_all, take-append-drop}
use borrow.Author.Tests.{not-false}
use Rattle.std.proofs.lemmas.Bool.{lt-leb}
use Rattle.std.proofs.lemmas.List.Folds.{concat-append}
use Rattle.std.proofs.lemmas.Nat.{from_le_bytes-to_le_bytes_2, from_le_bytes-to_le_bytes_4}
use Rattle.std.specs.Int.{w8, w32, to_le_bytes, from_bool}
use Rattle.std.specs.List.{concat}
use Rattle.codec.specs.Bytes.{AllBytes, le, le32, le64}
use Rattle.codec.specs.Cursor.{write, on, write_row}
use Rattle.codec.specs.declared.codec.Writer.{Writer}
use Rattle.codec.proofs.RowLaws.{row_front}
use Rattle.meta.specs.Block.{block_size, entries_per_page}
use Rattle.meta.specs.Base.{base_at, base_fields, check_base, base_row, base_bytes}
use Rattle.meta.specs.Volume.{tail_at, tail_fields, check_tail, check_volume, record2, decode_volume, tail_row, volume_row, volume_bytes, Acceptable, VolumesBack}
use Rattle.meta.specs.declared.meta.Field.{Field}
use Rattle.meta.specs.declared.meta.MetaError.{MetaError}
use Rattle.meta.specs.declared.meta.VolumeMeta.{VolumeMeta}
use Rattle.meta.specs.declared.meta2.Tail.{Tail}
use Rattle.meta.specs.declared.meta2.VolumeMeta2.{VolumeMeta2}
use Rattle.meta.proofs.BlockLaws.{block_range, block_in_range}
use Rattle.meta.proofs.LayoutLaws.{base_layout, tail_layout}
use Rattle.meta.proofs.RoundLaws.{written_8, written_16, written_32, pieces, joined, ◌and◌, passed, after_ok}
use Rattle.meta.proofs.BaseLaws.{Passed, base_passed, base_checked, base_written, acceptable_base, acceptable_fits, base_read}

-- A row of writes after another one.
pub row_join : (row more : List (List ℕ)) (s : List ℕ) (w : Writer)
    → write_row (row ++ more) s w ≡ on (write_row row s w).0 (write_row row s w).1 (write_row more)
row_join [] more s w = refl
row_join (vs ∷ row) more s w = go (write vs s w).1 (λ next. row_join row more (write vs s w).0 next)
  where
    t : List ℕ
    t = (write vs s w).0

    go : (end : Option Writer)
        → ((next : Writer) → write_row (row ++ more) t next ≡ on (write_row row t next).0 (write_row row t next).1 (write_row more))
        → on t end (write_row (row ++ more)) ≡ on (on t end (write_row row)).0 (on t end (write_row row)).1 (write_row more)
    go (Some next) again = again next
    go None again = refl

pub length_volume : (v : VolumeMeta2) → length (volume_bytes v) ≡ 64
unfolding volume_bytes
length_volume v = simp length-append (omega arith)

pub volume_fits : (v : VolumeMeta2) (out : List ℕ) → 64 ≤ length out
    → write_row (volume_row v) out (record { pos = 0 }) ≡ (volume_bytes v ++ drop 64 out, Some (record { pos = 64 }))
unfolding volume_bytes
volume_fits v out fits = row_front (volume_row v) out 64 (length_volume v) fits

-- ---- what is decoded

-- The rules of what stands after a base.
pub record TailPassed (base : VolumeMeta) (t : Tail) : Type 0 where
  pub reserved0 : t.reserved0 ≡ 0
  pub reserved1 : t.reserved1 ≡ 0
  pub offset : base.table_offset ≡ 2 * block_size base.log2_block_size
  pub pages_low : 1 ≤ t.table_pages
  pub pages_high : t.table_pages < 2 ^ 30
  pub entries : t.entries_per_page ≡ entries_per_page base.log2_table_slot_size
  pub clean : t.clean_close ≤ 1

tail_passed : (base : VolumeMeta) (t : Tail) → check_tail base t ≡ Ok tt → TailPassed base t
unfolding check_tail
tail_passed base t is =
    record { reserved0 = grind arith; reserved1 = grind arith; offset = grind arith; pages_low = grind arith; pages_high = grind arith; entries = grind arith; clean = grind arith }

-- The fields are those of the bytes, and the checks passed.
pub record VolumeDecoded (s : List ℕ) (v : VolumeMeta2) : Type 0 where
  pub size : length s ≡ 64
  pub is : v ≡ record2 (base_fields s) (tail_fields s)
  pub flags : le32 s 56 ≡ 0
  pub base : Passed (base_fields s) (le32 s 4) (le64 s 40)
  pub tail : TailPassed (base_fields s) (tail_fields s)

pub volume_decoded : (s : List ℕ) (v : VolumeMeta2) → decode_volume s ≡ Ok v → VolumeDecoded s v
unfolding decode_volume check_volume
volume_decoded s v is =
    let first = passed (not (length s == 64)) MetaError.Length is in
    let size : length s ≡ 64 = eqb-true _ _ (not-false _ first.0) in
    let base : base_at s ≡ Some (base_fields s, le32 s 4, le64 s 40) = base_layout s ∙ rw (le-ltb (length s) 48 (omega arith)) refl in
    let tail : tail_at s ≡ Some (tail_fields s) = tail_layout s ∙ rw (le-ltb (length s) 64 (omega arith)) refl in
    let read = rw (base, tail) at first.1 in
    let features = passed (not (le64 s 32 == 0)) (MetaError.Field Field.Features) read in
    let flags = passed (not (le32 s 56 == 0)) (MetaError.Field Field.Flags) features.1 in
    let checked = after_ok (check_base (base_fields s) (le32 s 4) (le64 s 40)) flags.1 in
    let all = after_ok (check_tail (base_fields s) (tail_fields s)) checked.1 in
    record {
      size = size;
      is = cc;
      flags = eqb-true _ _ (not-false _ flags.0);
      base = base_passed _ _ _ checked.0;
      tail = tail_passed _ _ all.0;
    }

-- ---- the round trip

-- A mark of 0 or 1 is written as it was read.
mark : (n : ℕ) → n ≤ 1 → from_bool (n == 1) ≡ n
mark zero within = refl
mark (suc zero) within = refl
mark (suc (suc n)) within = absurd (omega arith)

mark_fits : (b : Bool) → from_bool b % 256 ≡ from_bool b
mark_fits true = refl
mark_fits false = refl

mark_back : (b : Bool) → (from_bool b == 1) ≡ b
mark_back true = refl
mark_back false = refl

mark_low : (b : Bool) → nat_lt 1 (from_bool b) ≡ false
mark_low true = refl
mark_low false = refl

-- A record is its base and what stands after it.
parts : (v : VolumeMeta2) → volume_bytes v ≡ base_bytes v.base ++ concat (tail_row v)
unfolding volume_bytes base_bytes
parts v = concat-append (base_row v.base) (tail_row v)

volume_written : (s : List ℕ) (v : VolumeMeta2) → AllBytes s → decode_volume s ≡ Ok v → volume_bytes v ≡ s
volume_written s v small is =
    let d = volume_decoded s v is in
    let fits : (k : ℕ) → k ≤ 64 → k ≤ length s = λ k within. omega (arith, d.size) in
    let tail : tail_row (record2 (base_fields s) (tail_fields s)) ≡ pieces (4 ∷ 2 ∷ 1 ∷ 1 ∷ 4 ∷ 4 ∷ []) 48 s =
    written_32 s small 48 (fits 52 (lit≤ tt))
    and written_16 s small 52 (fits 54 (lit≤ tt))
    and ap (to_le_bytes w8) (mark (le w8 s 54) d.tail.clean) ∙ written_8 s small 54 (fits 55 (lit≤ tt))
    and ap (to_le_bytes w8) (sym d.tail.reserved0) ∙ written_8 s small 55 (fits 56 (lit≤ tt))
    and written_32 s small 56 (fits 60 (lit≤ tt))
    and ap (to_le_bytes w32) (sym d.tail.reserved1) ∙ written_32 s small 60 (fits 64 (lit≤ tt))
    and refl in
    ap volume_bytes d.is
    ∙ parts (record2 (base_fields s) (tail_fields s))
    ∙ ap₂ (λ (l r : List ℕ). l ++ r) (base_written s small (fits 48 (lit≤ tt)) d.base.no_word d.base.no_tail) (ap concat tail ∙ joined (4 ∷ 2 ∷ 1 ∷ 1 ∷ 4 ∷ 4 ∷ []) 48 s ∙ take_all 16 (drop 48 s) (omega (arith, length-drop 48 s, d.size)))
    ∙ take-append-drop 48 s

volume_accepted : (s : List ℕ) (v : VolumeMeta2) → AllBytes s → decode_volume s ≡ Ok v → Acceptable v
volume_accepted s v small is =
    let d = volume_decoded s v is in
    rw d.is
    (record {
      base = acceptable_base s small d.base;
      offset = d.tail.offset ∙ ap (λ (n : ℕ). 2 * n) (block_in_range (le w8 s 0) d.base.block_low d.base.block_high);
      pages_low = d.tail.pages_low;
      pages_high = d.tail.pages_high;
      entries = d.tail.entries;
      no_flags = d.flags;
    })

entries_fit : (log2 : ℕ) → entries_per_page log2 < 2 ^ 16
unfolding entries_per_page
entries_fit log2 = let high : block_size log2 ≤ 65536 = (block_range log2).1 in omega arith

abbrev stored_tail : VolumeMeta2 → Tail
stored_tail v =
    record { table_pages = v.table_pages; entries_per_page = v.entries_per_page; clean_close = from_bool v.clean_close; reserved0 = 0; flags = v.flags; reserved1 = 0 }

-- What stands after the base is read as it was written.
tail_read : (v : VolumeMeta2) → Acceptable v → tail_fields (volume_bytes v) ≡ stored_tail v
unfolding le volume_bytes
tail_read v a =
    let pages : v.table_pages < 2 ^ 32 = omega (arith, a.pages_high) in
    let entries : v.entries_per_page < 2 ^ 16 = rw a.entries (entries_fit v.base.log2_table_slot_size) in
    let flags : v.flags < 2 ^ 32 = omega (arith, a.no_flags) in
    simp (from_le_bytes-to_le_bytes_4 v.table_pages pages, from_le_bytes-to_le_bytes_2 v.entries_per_page entries, mark_fits v.clean_close, from_le_bytes-to_le_bytes_4 v.flags flags)

tail_checked : (v : VolumeMeta2) → Acceptable v → check_tail v.base (stored_tail v) ≡ Ok tt
unfolding check_tail
tail_checked v a =
    let offset : v.base.table_offset ≡ 2 * block_size v.base.log2_block_size =
    a.offset ∙ ap (λ (n : ℕ). 2 * n) (sym (block_in_range v.base.log2_block_size a.base.block_low a.base.block_high)) in
    let some : (v.table_pages == 0) ≡ false = ne_eqb v.table_pages 0 (λ none. omega (arith, a.pages_low)) in
    simp (eq-eqb _ _ offset, some, lt-leb (2 ^ 30) v.table_pages a.pages_high, eq-eqb _ _ a.entries, mark_low v.clean_close)

volume_back : (v : VolumeMeta2) → Acceptable v → decode_volume (volume_bytes v) ≡ Ok v
unfolding decode_volume check_volume
volume_back v a =
    let base : base_at (volume_bytes v) ≡ Some (v.base, 0, 0) = ap base_at (parts v) ∙ base_read v.base (concat (tail_row v)) (acceptable_fits v.base a.base) in
    let tail : tail_at (volume_bytes v) ≡ Some (stored_tail v) =
    tail_layout (volume_bytes v) ∙ rw (le-ltb (length (volume_bytes v)) 64 (omega (arith, length_volume v))) (ap Some (tail_read v a)) in
    simp (eq-eqb (length (volume_bytes v)) 64 (length_volume v), base, tail, eq-eqb v.base.features 0 a.base.no_features, eq-eqb v.flags 0 a.no_flags, base_checked v.base a.base, tail_checked v a, mark_back v.clean_close)

pub volumes_back : VolumesBack
volumes_back = record { encoded = volume_written; accepted = volume_accepted; decoded = volume_back }
