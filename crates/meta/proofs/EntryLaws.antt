-- Table entries: their writes, and their round trip.
use Rattle.std.proofs.Common.{◌≡◌, refl, ap, ap₂, ◌∙◌, Bool, true, false, ℕ, ◌+◌, ◌≤◌, List, [], ◌∷◌, ◌++◌, length, take, drop, Some, None, Ok, arith, le-ltb, ltb, ltb-false, lit≤, append_assoc, length-append, take_at}
use Rattle.std.proofs.lemmas.List.Folds.{concat-append}
use Rattle.std.proofs.lemmas.Nat.{from_le_bytes-to_le_bytes_2, from_le_bytes-to_le_bytes_4, from_le_bytes-to_le_bytes_8}
use Rattle.std.proofs.Math.Nat.{mod-eq_of_lt}
use Rattle.std.specs.Prelude.{if◌then◌else◌, nat_lt, ◌||◌}
use Rattle.std.specs.Option.{ok_or}
use Rattle.std.specs.Int.{Width, w8, w16, w32, w64, to_le_bytes}
use Rattle.std.specs.List.{concat}
use Rattle.codec.specs.Bytes.{AllBytes, le, le16, le32, le64}
use Rattle.codec.specs.Cursor.{write_row}
use Rattle.codec.proofs.RowLaws.{row_front}
use Rattle.meta.specs.Kind.{kind_number, kind_at, state_at}
use Rattle.meta.specs.Entry.{entry_at, entry_fields, read_entry, entry_row, entry_bytes, to_raw, stored, Fits}
use Rattle.meta.specs.Name.{padded}
use Rattle.meta.specs.Check.{ready, check_span, check_header, check_footprint, check_content, check_sizes, entry2, check_entry, EntriesBack}
use Rattle.meta.specs.declared.meta.RegionKind.{RegionKind}
use Rattle.meta.specs.declared.meta.RegionName.{RegionName}
use Rattle.meta.specs.declared.meta.RegionState.{RegionState}
use Rattle.meta.specs.declared.meta2.Entry2.{Entry2}
use Rattle.meta.specs.declared.meta2.EntryLimits.{EntryLimits}
use Rattle.meta.specs.declared.meta.MetaError.{MetaError}
use Rattle.meta.specs.declared.meta2.RawEntry.{RawEntry}
use Rattle.meta.proofs.LayoutLaws.{entry_layout}
use Rattle.meta.proofs.RoundLaws.{written_8, written_16, written_32, written_64, pieces, joined, ◌and◌, le_behind, passed, then_ok}
use Rattle.meta.proofs.NameLaws.{stored_bytes}

pub length_entry : (e : RawEntry) → length e.name ≡ 24 → length (entry_bytes e) ≡ 96
unfolding entry_bytes
length_entry e name = simp length-append (omega (arith, name))

pub entry_fits : (e : RawEntry) (out : List ℕ) → length e.name ≡ 24 → 96 ≤ length out
    → write_row (entry_row e) out (record { pos = 0 }) ≡ (entry_bytes e ++ drop 96 out, Some (record { pos = 96 }))
unfolding entry_bytes
entry_fits e out name fits = row_front (entry_row e) out 96 (length_entry e name) fits

-- ---- written as it was read

written : (s : List ℕ) → AllBytes s → 96 ≤ length s → entry_bytes (entry_fields s) ≡ take 38 s ++ 0 ∷ 0 ∷ take 56 (drop 40 s)
unfolding entry_bytes
written s small long =
    let fits : (k : ℕ) → k ≤ 96 → k ≤ length s = λ k within. omega arith in
    let front : to_le_bytes w32 (le32 s 0) ∷ to_le_bytes w8 (le w8 s 4) ∷ to_le_bytes w8 (le w8 s 5) ∷ to_le_bytes w8 (le w8 s 6) ∷ to_le_bytes w8 (le w8 s 7) ∷ take 24 (drop 8 s) ∷ to_le_bytes w32 (le32 s 32) ∷ to_le_bytes w16 (le16 s 36) ∷ []
    ≡ pieces (4 ∷ 1 ∷ 1 ∷ 1 ∷ 1 ∷ 24 ∷ 4 ∷ 2 ∷ []) 0 s =
    written_32 s small 0 (fits 4 (lit≤ tt))
    and written_8 s small 4 (fits 5 (lit≤ tt))
    and written_8 s small 5 (fits 6 (lit≤ tt))
    and written_8 s small 6 (fits 7 (lit≤ tt))
    and written_8 s small 7 (fits 8 (lit≤ tt))
    and refl
    and written_32 s small 32 (fits 36 (lit≤ tt))
    and written_16 s small 36 (fits 38 (lit≤ tt))
    and refl in
    let places : to_le_bytes w64 (le64 s 40) ∷ to_le_bytes w64 (le64 s 48) ∷ to_le_bytes w64 (le64 s 56) ∷ to_le_bytes w64 (le64 s 64) ∷ to_le_bytes w64 (le64 s 72) ∷ to_le_bytes w64 (le64 s 80) ∷ to_le_bytes w64 (le64 s 88) ∷ []
    ≡ pieces (8 ∷ 8 ∷ 8 ∷ 8 ∷ 8 ∷ 8 ∷ 8 ∷ []) 40 s =
    written_64 s small 40 (fits 48 (lit≤ tt))
    and written_64 s small 48 (fits 56 (lit≤ tt))
    and written_64 s small 56 (fits 64 (lit≤ tt))
    and written_64 s small 64 (fits 72 (lit≤ tt))
    and written_64 s small 72 (fits 80 (lit≤ tt))
    and written_64 s small 80 (fits 88 (lit≤ tt))
    and written_64 s small 88 (fits 96 (lit≤ tt))
    and refl in
    ap₂ (λ (xs ys : List (List ℕ)). concat (xs ++ (0 ∷ 0 ∷ []) ∷ ys)) front places
    ∙ concat-append (pieces (4 ∷ 1 ∷ 1 ∷ 1 ∷ 1 ∷ 24 ∷ 4 ∷ 2 ∷ []) 0 s) ((0 ∷ 0 ∷ []) ∷ pieces (8 ∷ 8 ∷ 8 ∷ 8 ∷ 8 ∷ 8 ∷ 8 ∷ []) 40 s)
    ∙ ap₂ (λ (l r : List ℕ). l ++ 0 ∷ 0 ∷ r) (joined (4 ∷ 1 ∷ 1 ∷ 1 ∷ 1 ∷ 24 ∷ 4 ∷ 2 ∷ []) 0 s) (joined (8 ∷ 8 ∷ 8 ∷ 8 ∷ 8 ∷ 8 ∷ 8 ∷ []) 40 s)

written_back : (s : List ℕ) (e : RawEntry) → AllBytes s → read_entry s ≡ Ok e → entry_bytes e ≡ take 38 s ++ 0 ∷ 0 ∷ take 56 (drop 40 s)
written_back s e small is = go (ltb (length s) 96) refl (rw (entry_layout s) at is)
  where
    go : (short : Bool) → ltb (length s) 96 ≡ short → ok_or (if short then None else Some (entry_fields s)) MetaError.Length ≡ Ok e
        → entry_bytes e ≡ take 38 s ++ 0 ∷ 0 ∷ take 56 (drop 40 s)
    go true test is = let never : ◌≡◌ {A = ℕ} 0 1 = cc in absurd (omega arith)
    go false test is = let fields : e ≡ entry_fields s = cc in ap entry_bytes fields ∙ written s small (ltb-false _ _ test)

-- ---- read as it was written

module _ (e : RawEntry) (f : Fits e) (rest : List ℕ) where
  -- The bytes up to the name's end, and those after.
  abbrev front : List ℕ
  front = to_le_bytes w32 e.seq ++ to_le_bytes w8 e.kind ++ to_le_bytes w8 e.state ++ to_le_bytes w8 e.flags ++ to_le_bytes w8 e.compat_flags ++ e.name

  abbrev behind : List ℕ
  behind =
      concat (
      to_le_bytes w32 e.tag ∷ to_le_bytes w16 e.extent_count ∷ to_le_bytes w16 0
      ∷ to_le_bytes w64 e.header_a ∷ to_le_bytes w64 e.header_b ∷ to_le_bytes w64 e.data_size ∷ to_le_bytes w64 e.capacity
      ∷ to_le_bytes w64 e.span_start ∷ to_le_bytes w64 e.span_end ∷ to_le_bytes w64 e.footprint_seq ∷ []
      )

  whole : entry_bytes e ++ rest ≡ front ++ (behind ++ rest)
  unfolding entry_bytes
  whole = ap (λ (t : List ℕ). to_le_bytes w32 e.seq ++ to_le_bytes w8 e.kind ++ to_le_bytes w8 e.state ++ to_le_bytes w8 e.flags ++ to_le_bytes w8 e.compat_flags ++ t) (append_assoc e.name behind rest)

  numbers_front : (le32 (front ++ (behind ++ rest)) 0 ≡ e.seq) × (le w8 (front ++ (behind ++ rest)) 4 ≡ e.kind) × (le w8 (front ++ (behind ++ rest)) 5 ≡ e.state)
      × (le w8 (front ++ (behind ++ rest)) 6 ≡ e.flags) × (le w8 (front ++ (behind ++ rest)) 7 ≡ e.compat_flags)
  unfolding le
  numbers_front =
      (from_le_bytes-to_le_bytes_4 e.seq f.seq, mod-eq_of_lt {m = 256} f.kind, mod-eq_of_lt {m = 256} f.state, mod-eq_of_lt {m = 256} f.flags, mod-eq_of_lt {m = 256} f.compat_flags)

  numbers_behind : (le32 (behind ++ rest) 0 ≡ e.tag) × (le16 (behind ++ rest) 4 ≡ e.extent_count) × (le16 (behind ++ rest) 6 ≡ 0)
      × (le64 (behind ++ rest) 8 ≡ e.header_a) × (le64 (behind ++ rest) 16 ≡ e.header_b) × (le64 (behind ++ rest) 24 ≡ e.data_size) × (le64 (behind ++ rest) 32 ≡ e.capacity)
      × (le64 (behind ++ rest) 40 ≡ e.span_start) × (le64 (behind ++ rest) 48 ≡ e.span_end) × (le64 (behind ++ rest) 56 ≡ e.footprint_seq)
  unfolding le
  numbers_behind = (
    from_le_bytes-to_le_bytes_4 e.tag f.tag,
    from_le_bytes-to_le_bytes_2 e.extent_count f.extent_count,
    refl,
    from_le_bytes-to_le_bytes_8 e.header_a f.header_a,
    from_le_bytes-to_le_bytes_8 e.header_b f.header_b,
    from_le_bytes-to_le_bytes_8 e.data_size f.data_size,
    from_le_bytes-to_le_bytes_8 e.capacity f.capacity,
    from_le_bytes-to_le_bytes_8 e.span_start f.span_start,
    from_le_bytes-to_le_bytes_8 e.span_end f.span_end,
    from_le_bytes-to_le_bytes_8 e.footprint_seq f.footprint_seq,
  )

  fields : entry_fields (front ++ (behind ++ rest)) ≡ stored e
  fields =
      let size : length front ≡ 32 = simp length-append (omega (arith, f.name)) in
      let at : (w : Width) (i : ℕ) → le w (front ++ (behind ++ rest)) (32 + i) ≡ le w (behind ++ rest) i = λ w i. le_behind w 32 i front (behind ++ rest) size in
      let first = numbers_front in
      let last = numbers_behind in
      simp (
        first.0,
        first.1,
        first.2,
        first.3,
        first.4,
        take_at e.name (behind ++ rest) 24 f.name,
        at w32 0 ∙ last.0,
        at w16 4 ∙ last.1,
        at w16 6 ∙ last.2,
        at w64 8 ∙ last.3,
        at w64 16 ∙ last.4,
        at w64 24 ∙ last.5,
        at w64 32 ∙ last.6,
        at w64 40 ∙ last.7,
        at w64 48 ∙ last.8,
        at w64 56 ∙ last.9,
      )

  read_back : read_entry (entry_bytes e ++ rest) ≡ Ok (stored e)
  read_back =
      let long : 96 ≤ length (entry_bytes e ++ rest) = omega (arith, length-append (entry_bytes e) rest, length_entry e f.name) in
      let at : entry_at (entry_bytes e ++ rest) ≡ Some (stored e) =
      entry_layout (entry_bytes e ++ rest) ∙ rw (le-ltb _ 96 long) (ap Some (ap entry_fields whole ∙ fields)) in
      rw at refl

-- ---- stored as it was accepted

kind_back : (v : ℕ) (kind : RegionKind) → kind_at v ≡ Ok kind → kind_number kind ≡ v
kind_back v kind is = grind arith

state_back : (v : ℕ) (state : RegionState) {pass : Unit {0}} → state_at v ≡ Ok state → ready state ≡ Ok pass → v ≡ 1
state_back v state is ready = grind arith

stored_as : (e : RawEntry) (kind : RegionKind) (name : RegionName) → kind_number kind ≡ e.kind → e.state ≡ 1 → name.bytes ≡ e.name
    → to_raw (entry2 e kind name) ≡ stored e
stored_as e kind name kind-is state-is name-is = rw (kind-is, state-is, name-is) refl

accepted_back : (e : RawEntry) (l : EntryLimits) (x : Entry2) → check_entry e l ≡ Ok x → length e.name ≡ 24 → to_raw x ≡ stored e
unfolding check_entry
accepted_back e l x is size =
    let flags = passed (nat_lt 3 e.flags) _ is in
    let limits = passed (nat_lt l.log2_block 12 || nat_lt 16 l.log2_block) _ flags.1 in
    let kind = then_ok (kind_at e.kind) _ x limits.1 in
    let state = then_ok (state_at e.state) _ x kind.next in
    let ready = then_ok (ready state.value) _ x state.next in
    let name = then_ok (padded e.name) _ x ready.next in
    let span = then_ok (check_span e l) _ x name.next in
    let header_a = then_ok (check_header e e.header_a l) _ x span.next in
    let header_b = then_ok (check_header e e.header_b l) _ x header_a.next in
    let footprint = then_ok (check_footprint e l) _ x header_b.next in
    let content = then_ok (check_content e kind.value) _ x footprint.next in
    let sizes = then_ok (check_sizes e kind.value l) _ x content.next in
    let same : x ≡ entry2 e kind.value name.value = cc in
    rw same (stored_as e kind.value name.value (kind_back e.kind kind.value kind.is) (state_back e.state state.value state.is ready.is) (stored_bytes e.name name.value name.is size))

pub entries_back : EntriesBack
entries_back = record { read_back = λ e f rest. read_back e f rest; written_back = written_back; accepted_back = accepted_back }
