-- Table pages: their entries, their layout by offsets, and their round trip.
use Rattle.std.proofs.Common.{◌≡◌, refl, sym, ap, ap₂, ◌∙◌, subst, Bool, true, false, not, ◌||◌, ◌==◌, ℕ, zero, suc, ◌+◌, ◌-◌, ◌*◌, ◌/◌, ◌^◌, ◌≤◌, ◌<◌, List, [], ◌∷◌, ◌++◌, length, take, drop, get_or, map, replicate, Some, None, Result, Ok, Err, arith, eq-eqb, eqb-true, le-ltb, leb-false, ltb, append_assoc, length-append, length-take, length-drop, length-take-le, take-append-drop, take_at, drop_at, drop-drop, drop-cons}
use borrow.Author.Tests.{not-false}
use borrow.Rule.Slice.PartMut.{put_mid}
use Rattle.std.proofs.lemmas.Bool.{lt-leb}
use Rattle.std.proofs.Math.Bool.{or_assoc}
use Rattle.std.proofs.lemmas.List.Folds.{list_any-append}
use Rattle.std.proofs.Math.Seq.{get_or-append_right}
use Rattle.std.proofs.lemmas.Nat.{from_le_bytes-to_le_bytes_2, from_le_bytes-to_le_bytes_4}
use Rattle.std.specs.Prelude.{if◌then◌else◌, nat_lt, nat_le, slice_index}
use Rattle.std.specs.Int.{w32, from_le_bytes}
use Rattle.std.specs.List.{concat, list_all, list_any, flat_map}
use Rattle.std.specs.Simd.{first_chunks}
use Rattle.codec.specs.Bytes.{AllBytes, le, le32}
use Rattle.codec.specs.Cursor.{write_row}
use Rattle.codec.proofs.ByteLaws.{agree-number}
use Rattle.codec.proofs.RowLaws.{row_front}
use Rattle.meta.specs.Page.{header_at, header_fields, seq, shares, check_own, check_entries, entries, decoded_page, decode_page, header_row, header_bytes, stored_part, page_bytes, encode_page, Issued, Parts, AcceptablePage, PagesBack, Renamed, NamesIgnored}
use Rattle.meta.specs.declared.meta.MetaError.{MetaError}
use Rattle.meta.specs.declared.meta2.PageHeader.{PageHeader}
use Rattle.meta.proofs.LayoutLaws.{header_layout}
use Rattle.meta.proofs.NameLaws.{all_zeros}
use Rattle.meta.proofs.RoundLaws.{written_16, written_32, below_16, below_32, pieces, joined, ◌and◌, passed, after_ok}

-- A number at the front, by its bytes.
pub front_number : (e : List ℕ) → le32 e 0 ≡ from_le_bytes w32 (get_or e 0 0 ∷ get_or e 1 0 ∷ get_or e 2 0 ∷ get_or e 3 0 ∷ [])
unfolding le
front_number [] = refl
front_number (a ∷ []) = refl
front_number (a ∷ b ∷ []) = refl
front_number (a ∷ b ∷ c ∷ []) = refl
front_number (a ∷ b ∷ c ∷ d ∷ e) = refl

-- ---- a scan by eights

pub any_eights : {X : Type 0} (p : X → Bool) (k : ℕ) (xs : List X)
    → (list_any (λ ys. list_any p ys) (first_chunks 8 k xs) || list_any p (drop (k * 8) xs)) ≡ list_any p xs
any_eights p zero xs = refl
any_eights {X} p (suc k) xs =
    let behind : drop (suc k * 8) xs ≡ drop (k * 8) (drop 8 xs) = ap (λ (i : ℕ). drop i xs) {y = 8 + k * 8} (omega arith) ∙ sym (drop-drop (k * 8) 8 xs) in
    rw behind
    (or_assoc (list_any p (take 8 xs)) (list_any (λ ys. list_any p ys) (first_chunks 8 k (drop 8 xs))) (list_any p (drop (k * 8) (drop 8 xs)))
    ∙ ap (λ (rest : Bool). list_any p (take 8 xs) || rest) (any_eights p k (drop 8 xs))
    ∙ sym (list_any-append p (take 8 xs) (drop 8 xs))
    ∙ ap (list_any p) (take-append-drop 8 xs))

pub scanned : (n k : ℕ) (xs : List (List ℕ)) (eights : List (List (List ℕ))) (rest : List (List ℕ)) (found : Bool)
    → eights ≡ first_chunks 8 k xs → rest ≡ drop (k * 8) xs → found ≡ list_any (λ es. shares n es) eights
    → (found || shares n rest) ≡ shares n xs
scanned n k xs eights rest found front back ran = rw (ran, front, back) (any_eights (λ e. seq e == n) k xs)

-- ---- an entry and the header as they are written

pub zeroed : (place e zeros : List ℕ) → place ≡ e → zeros ≡ replicate (length (take 2 (drop 38 place))) 0 → length e ≡ 96
    → put_mid 38 2 place zeros ≡ stored_part e
zeroed place e zeros same is size =
    let two : length (take 2 (drop 38 place)) ≡ 2 = simp (length-take, length-drop, same, size) in
    let zeros-are : zeros ≡ 0 ∷ 0 ∷ [] = is ∙ ap (λ (n : ℕ). replicate n 0) two in
    rw (same, zeros-are) (ap (λ (rest : List ℕ). take 38 e ++ 0 ∷ 0 ∷ rest) (drop-drop 2 38 e))

pub length_header : (h : PageHeader) → length (header_bytes h) ≡ 24
unfolding header_bytes
length_header h = simp length-append (omega arith)

pub header_fits : (h : PageHeader) (out : List ℕ) → 24 ≤ length out
    → write_row (header_row h) out (record { pos = 0 }) ≡ (header_bytes h ++ drop 24 out, Some (record { pos = 24 }))
unfolding header_bytes
header_fits h out fits = row_front (header_row h) out 24 (length_header h) fits

-- The header in front of a buffer, and the entries after it.
pub encoded : (h : PageHeader) (es : List (List ℕ)) (out front written : List ℕ)
    → length es ≤ 65535 → length es ≡ h.count → 24 + length es * 96 ≤ length out
    → front ≡ header_bytes h ++ drop 24 out → written ≡ flat_map stored_part es
    → (put_mid 24 (24 + length es * 96 - 24) front written, Ok (24 + length es * 96)) ≡ encode_page h es out
unfolding encode_page page_bytes
encoded h es out front written few same room front-is written-is =
    let size : 24 + length es * 96 - 24 ≡ length es * 96 = omega arith in
    let header : List ℕ = header_bytes h in
    let before : take 24 (header ++ drop 24 out) ≡ header = take_at header (drop 24 out) 24 (length_header h) in
    let after : drop (length es * 96) (drop 24 (header ++ drop 24 out)) ≡ drop (24 + length es * 96) out =
    ap (drop (length es * 96)) (drop_at header (drop 24 out) 24 (length_header h)) ∙ drop-drop (length es * 96) 24 out in
    rw (front-is, written-is, size, before, after)
    (simp (le-ltb 65535 (length es) few, eq-eqb (length es) h.count same, le-ltb _ _ room, append_assoc))

-- ---- parts of 96 bytes

length_parts : (n : ℕ) (s : List ℕ) → length (first_chunks 96 n s) ≡ n
length_parts zero s = refl
length_parts (suc n) s = ap suc (length_parts n (drop 96 s))

all_parts : (n : ℕ) (s : List ℕ) → n * 96 ≤ length s → Parts (first_chunks 96 n s)
all_parts zero s fits = Parts.none
all_parts (suc n) s fits =
    let more : n * 96 ≤ length (drop 96 s) = omega (arith, length-drop 96 s) in
    Parts.more (length-take-le 96 s (omega arith)) (all_parts n (drop 96 s) more)

parts_joined : (n : ℕ) (s : List ℕ) → length s ≡ n * 96 → concat (first_chunks 96 n s) ≡ s
parts_joined zero s size = sym (empty s (omega arith))
  where
    empty : (t : List ℕ) → length t ≡ 0 → t ≡ []
    empty [] none = refl
    empty (x ∷ t) none = absurd (omega arith)
parts_joined (suc n) s size =
    let more : length (drop 96 s) ≡ n * 96 = omega (arith, length-drop 96 s) in
    ap (λ (t : List ℕ). take 96 s ++ t) (parts_joined n (drop 96 s) more) ∙ take-append-drop 96 s

-- ---- an entry with zeros at 38

module _ (e : List ℕ) (size : length e ≡ 96) where
  front : length (take 38 e) ≡ 38
  front = length-take-le 38 e (omega arith)

  pub length_stored : length (stored_part e) ≡ 96
  length_stored = simp (length-append, length-drop) (omega (arith, front))

  seq_stored : seq (stored_part e) ≡ seq e
  seq_stored = agree-number 38 (stored_part e) e (take_at (take 38 e) (0 ∷ 0 ∷ drop 40 e) 38 front) w32 0 (omega arith)

  zero_38 : slice_index (stored_part e) 38 ≡ 0
  zero_38 = get_or-append_right (take 38 e) (0 ∷ 0 ∷ drop 40 e) 38 0 (omega (arith, front)) ∙ ap (λ (i : ℕ). get_or (0 ∷ 0 ∷ drop 40 e) i 0) {y = 0} (omega (arith, front))

  zero_39 : slice_index (stored_part e) 39 ≡ 0
  zero_39 = get_or-append_right (take 38 e) (0 ∷ 0 ∷ drop 40 e) 39 0 (omega (arith, front)) ∙ ap (λ (i : ℕ). get_or (0 ∷ 0 ∷ drop 40 e) i 0) {y = 1} (omega (arith, front))

  stored_same : slice_index e 38 ≡ 0 → slice_index e 39 ≡ 0 → stored_part e ≡ e
  stored_same first second =
      let behind : drop 38 e ≡ 0 ∷ 0 ∷ drop 40 e =
      drop-cons e 38 0 (omega arith) ∙ ap₂ (λ (x : ℕ) (t : List ℕ). x ∷ t) first (drop-cons e 39 0 (omega arith) ∙ ap (λ (x : ℕ). x ∷ drop 40 e) second) in
      ap (λ (t : List ℕ). take 38 e ++ t) (sym behind) ∙ take-append-drop 38 e

-- Zeros at 38 in each entry.
data Zeros : List (List ℕ) → Type 0 where
  none : Zeros []
  more : {e : List ℕ} {es : List (List ℕ)} → slice_index e 38 ≡ 0 → slice_index e 39 ≡ 0 → Zeros es → Zeros (e ∷ es)

stored_zeros : (es : List (List ℕ)) → Parts es → Zeros (map stored_part es)
stored_zeros [] Parts.none = Zeros.none
stored_zeros (e ∷ es) (Parts.more size others) = Zeros.more (zero_38 e size) (zero_39 e size) (stored_zeros es others)

-- Entries with the same sequence numbers, one by one.
data Alike : List (List ℕ) → List (List ℕ) → Type 0 where
  none : Alike [] []
  more : {e f : List ℕ} {es fs : List (List ℕ)} → seq f ≡ seq e → Alike es fs → Alike (e ∷ es) (f ∷ fs)

shares_alike : (n : ℕ) {es fs : List (List ℕ)} → Alike es fs → shares n fs ≡ shares n es
shares_alike n Alike.none = refl
shares_alike n (Alike.more same others) = rw (same, shares_alike n others) refl

issued_alike : (next : ℕ) {es fs : List (List ℕ)} → Alike es fs → Issued next es → Issued next fs
issued_alike next Alike.none Issued.none = Issued.none
issued_alike next (Alike.more {e = e} same others) (Issued.more below alone rest) =
    Issued.more (rw same below) (rw same (shares_alike (seq e) others ∙ alone)) (issued_alike next others rest)

stored_alike : (es : List (List ℕ)) → Parts es → Alike es (map stored_part es)
stored_alike [] Parts.none = Alike.none
stored_alike (e ∷ es) (Parts.more size others) = Alike.more (seq_stored e size) (stored_alike es others)

stored_all : (es : List (List ℕ)) → Parts es → Zeros es → flat_map stored_part es ≡ concat es
stored_all [] Parts.none Zeros.none = refl
stored_all (e ∷ es) (Parts.more size others) (Zeros.more first second rest) =
    ap₂ (λ (l r : List ℕ). l ++ r) (stored_same e size first second) (stored_all es others rest)

length_entries : (es : List (List ℕ)) → Parts es → length (flat_map stored_part es) ≡ length es * 96
length_entries [] Parts.none = refl
length_entries (e ∷ es) (Parts.more size others) = omega (arith, length-append (stored_part e) (flat_map stored_part es), length_stored e size, length_entries es others)

parts_stored : (es : List (List ℕ)) → Parts es → first_chunks 96 (length es) (flat_map stored_part es) ≡ map stored_part es
parts_stored [] Parts.none = refl
parts_stored (e ∷ es) (Parts.more size others) =
    ap₂ (λ (x : List ℕ) (xs : List (List ℕ)). x ∷ xs)
    (take_at (stored_part e) (flat_map stored_part es) 96 (length_stored e size))
    (ap (first_chunks 96 (length es)) (drop_at (stored_part e) (flat_map stored_part es) 96 (length_stored e size)) ∙ parts_stored es others)

-- ---- the checks of the entries

record Checked (next : ℕ) (es : List (List ℕ)) : Type 0 where
  issued : Issued next es
  zeros : Zeros es

entries_passed : (next : ℕ) (es : List (List ℕ)) → check_entries next es ≡ Ok tt → Checked next es
entries_passed next [] is = record { issued = Issued.none; zeros = Zeros.none }
entries_passed next (e ∷ es) is =
    let own = after_ok (check_own next e) is in
    let alone = passed (shares (seq e) es) _ own.1 in
    let below = passed (nat_le next (seq e)) _ own.0 in
    let zeros = passed (not (slice_index e 38 == 0) || not (slice_index e 39 == 0)) _ below.1 in
    let others = entries_passed next es alone.1 in
    record { issued = Issued.more (leb-false _ _ below.0) alone.0 others.issued; zeros = Zeros.more (grind arith) (grind arith) others.zeros }

entries_checked : (next : ℕ) (es : List (List ℕ)) → Issued next es → Zeros es → check_entries next es ≡ Ok tt
entries_checked next [] Issued.none Zeros.none = refl
entries_checked next (e ∷ es) (Issued.more below alone rest) (Zeros.more first second zeros) =
    rw (lt-leb next (seq e) below, eq-eqb (slice_index e 38) 0 first, eq-eqb (slice_index e 39) 0 second, alone) (entries_checked next es rest zeros)

-- ---- what is decoded

record PageDecoded (s : List ℕ) (index most : ℕ) (h : PageHeader) : Type 0 where
  is : h ≡ header_fields s
  same : h.page_index ≡ index
  zeros : list_all (λ b. b == 0) (take 14 (drop 10 s)) ≡ true
  within : h.count ≤ most
  given_out : h.count ≤ h.next_seq
  size : length s ≡ 24 + h.count * 96
  checked : Checked h.next_seq (entries s)

page_decoded : (s : List ℕ) (index most : ℕ) (h : PageHeader) → decode_page s index most ≡ Ok h → PageDecoded s index most h
unfolding decode_page
page_decoded s index most h is = go (ltb (length s) 24) (rw (header_layout s) at is)
  where
    at : PageHeader
    at = header_fields s

    go : (short : Bool) → decoded_page s index most (if short then None else Some (header_fields s, take 14 (drop 10 s))) ≡ Ok h → PageDecoded s index most h
    go true is = let never : ◌≡◌ {A = ℕ} 0 1 = cc in absurd (omega arith)
    go false is =
        let zeros = passed (not (list_all (λ b. b == 0) (take 14 (drop 10 s)))) _ is in
        let same = passed (not (at.page_index == index)) _ zeros.1 in
        let count = passed (nat_lt most at.count || nat_lt at.next_seq at.count) _ same.1 in
        let size = passed (not (length s == 24 + at.count * 96)) _ count.1 in
        let own = after_ok (check_entries at.next_seq (entries s)) size.1 in
        let h-is : h ≡ at = cc in
        rw h-is
        (record {
          is = refl;
          same = eqb-true _ _ (not-false _ same.0);
          zeros = not-false _ zeros.0;
          within = grind arith;
          given_out = grind arith;
          size = eqb-true _ _ (not-false _ size.0);
          checked = entries_passed _ _ own.0;
        })

-- The entries of a page of that length.
module _ (s : List ℕ) (n : ℕ) (size : length s ≡ 24 + n * 96) where
  behind : length (drop 24 s) ≡ n * 96
  behind = omega (arith, length-drop 24 s)

  entries_are : entries s ≡ first_chunks 96 n (drop 24 s)
  unfolding entries
  entries_are = let count : length (drop 24 s) / 96 ≡ n = omega (arith, behind) in ap (λ (k : ℕ). first_chunks 96 k (drop 24 s)) count

accepted : (s : List ℕ) (index most : ℕ) (h : PageHeader) → AllBytes s → decode_page s index most ≡ Ok h → AcceptablePage h (entries s) most
accepted s index most h small is =
    let d = page_decoded s index most h is in
    let are = entries_are s h.count d.size in
    record {
      index = rw d.is (below_32 s small 0);
      next = rw d.is (below_32 s small 4);
      count = rw d.is (below_16 s small 8);
      whole = ap length are ∙ length_parts h.count (drop 24 s);
      parts = subst Parts (sym are) (all_parts h.count (drop 24 s) (omega (arith, behind s h.count d.size)));
      within = d.within;
      given_out = d.given_out;
      issued = d.checked.issued;
    }

header_written : (s : List ℕ) → AllBytes s → 24 ≤ length s → list_all (λ b. b == 0) (take 14 (drop 10 s)) ≡ true → header_bytes (header_fields s) ≡ take 24 s
unfolding header_bytes
header_written s small long zeros =
    let size : length (take 14 (drop 10 s)) ≡ 14 = simp (length-take, length-drop) (omega arith) in
    let behind : replicate 14 0 ≡ take 14 (drop 10 s) = ap (λ (n : ℕ). replicate n 0) (sym size) ∙ sym (all_zeros (take 14 (drop 10 s)) zeros) in
    let row : header_row (header_fields s) ≡ pieces (4 ∷ 4 ∷ 2 ∷ 14 ∷ []) 0 s =
    written_32 s small 0 (omega arith) and written_32 s small 4 (omega arith) and written_16 s small 8 (omega arith) and behind and refl in
    ap concat row ∙ joined (4 ∷ 4 ∷ 2 ∷ 14 ∷ []) 0 s

written_back : (s : List ℕ) (index most : ℕ) (h : PageHeader) → AllBytes s → decode_page s index most ≡ Ok h → page_bytes h (entries s) ≡ s
unfolding page_bytes
written_back s index most h small is =
    let d = page_decoded s index most h is in
    let a = accepted s index most h small is in
    ap₂ (λ (l r : List ℕ). l ++ r)
    (ap header_bytes d.is ∙ header_written s small (omega (arith, d.size)) d.zeros)
    (stored_all (entries s) a.parts d.checked.zeros ∙ ap concat (entries_are s h.count d.size) ∙ parts_joined h.count (drop 24 s) (behind s h.count d.size))
    ∙ take-append-drop 24 s

-- ---- what is written

header_read : (h : PageHeader) (rest : List ℕ) → h.page_index < 2 ^ 32 → h.next_seq < 2 ^ 32 → h.count < 2 ^ 16 → header_fields (header_bytes h ++ rest) ≡ h
unfolding le header_bytes
header_read h rest index next count =
    simp (from_le_bytes-to_le_bytes_4 h.page_index index, from_le_bytes-to_le_bytes_4 h.next_seq next, from_le_bytes-to_le_bytes_2 h.count count)

zeros_read : (h : PageHeader) (rest : List ℕ) → take 14 (drop 10 (header_bytes h ++ rest)) ≡ replicate 14 0
unfolding header_bytes
zeros_read h rest = refl

module _ (h : PageHeader) (es : List (List ℕ)) (most : ℕ) (a : AcceptablePage h es most) where
  abbrev page : List ℕ
  page = page_bytes h es

  length_page : length page ≡ 24 + h.count * 96
  unfolding page_bytes
  length_page = omega (arith, length-append (header_bytes h) (flat_map stored_part es), length_header h, length_entries es a.parts, a.whole)

  entries_read : entries page ≡ map stored_part es
  unfolding page_bytes
  entries_read =
      entries_are page h.count length_page
      ∙ ap₂ (λ (n : ℕ) (t : List ℕ). first_chunks 96 n t) (sym a.whole) (drop_at (header_bytes h) (flat_map stored_part es) 24 (length_header h))
      ∙ parts_stored es a.parts

  header_at_page : header_at page ≡ Some (h, replicate 14 0)
  unfolding page_bytes
  header_at_page =
      header_layout page
      ∙ rw (le-ltb (length page) 24 (omega (arith, length_page)))
      (ap₂ (λ (x : PageHeader) (t : List ℕ). Some (x, t)) (header_read h (flat_map stored_part es) a.index a.next a.count) (zeros_read h (flat_map stored_part es)))

  page_read : decode_page page h.page_index most ≡ Ok h
  unfolding decode_page
  page_read =
      let checked : check_entries h.next_seq (entries page) ≡ Ok tt =
      ap (check_entries h.next_seq) entries_read ∙ entries_checked h.next_seq (map stored_part es) (issued_alike h.next_seq (stored_alike es a.parts) a.issued) (stored_zeros es a.parts) in
      simp (header_at_page, eq-eqb h.page_index h.page_index refl, le-ltb most h.count a.within, le-ltb h.next_seq h.count a.given_out, eq-eqb (length page) (24 + h.count * 96) length_page, checked)

-- The first bytes of the buffer are the page.
page_first : (h : PageHeader) (es : List (List ℕ)) (out : List ℕ) (len most : ℕ) → (encode_page h es out).1 ≡ Ok len → AcceptablePage h es most
    → take len (encode_page h es out).0 ≡ page_bytes h es
unfolding encode_page
page_first h es out len most is a =
    let few : length es ≤ 65535 = omega (arith, a.whole, a.count) in
    let size : length (page_bytes h es) ≡ 24 + length es * 96 = omega (arith, length_page h es most a, a.whole) in
    rw (le-ltb 65535 (length es) few, eq-eqb (length es) h.count a.whole)
    (go (nat_lt (length out) (24 + length es * 96)) (24 + length es * 96) (page_bytes h es) size (rw (le-ltb 65535 (length es) few, eq-eqb (length es) h.count a.whole) at is))
  where
    result : Bool → ℕ → List ℕ → List ℕ × Result ℕ MetaError
    result short n front = if short then (out, Err MetaError.Length) else (front ++ drop n out, Ok n)

    go : (short : Bool) (n : ℕ) (front : List ℕ) → length front ≡ n → (result short n front).1 ≡ Ok len → take len (result short n front).0 ≡ front
    go true n front size answer = let never : ◌≡◌ {A = ℕ} 0 1 = cc in absurd (omega arith)
    go false n front size answer = let same : len ≡ n = cc in take_at front (drop n out) len (size ∙ sym same)

pub pages_back : PagesBack
pages_back =
    record {
      read_back = λ h es out len most is a. ap (λ (s : List ℕ). decode_page s h.page_index most) (page_first h es out len most is a) ∙ page_read h es most a;
      entries_back = λ h es out len most is a. ap entries (page_first h es out len most is a) ∙ entries_read h es most a;
      accepted = accepted;
      written_back = written_back;
    }

-- ---- entries with other names

module _ (e name : List ℕ) (size : length e ≡ 96) (named : length name ≡ 24) where
  abbrev renamed : List ℕ
  renamed = take 8 e ++ name ++ drop 32 e

  first : length (take 8 e) ≡ 8
  first = length-take-le 8 e (omega arith)

  length_renamed : length renamed ≡ 96
  length_renamed = simp (length-append, length-drop) (omega (arith, first))

  seq_renamed : seq renamed ≡ seq e
  seq_renamed =
      let front : take 8 renamed ≡ take 8 e =
      ap (take 8) (append_assoc (take 8 e) name (drop 32 e)) ∙ take_at (take 8 e) (name ++ drop 32 e) 8 first in
      agree-number 8 renamed e front w32 0 (omega arith)

parts_renamed : {es fs : List (List ℕ)} → Renamed es fs → Parts es → Parts fs
parts_renamed Renamed.none Parts.none = Parts.none
parts_renamed (Renamed.more e name named others) (Parts.more size rest) =
    Parts.more (length_renamed e name size named) (parts_renamed others rest)

count_renamed : {es fs : List (List ℕ)} → Renamed es fs → length fs ≡ length es
count_renamed Renamed.none = refl
count_renamed (Renamed.more e name named others) = ap suc (count_renamed others)

renamed_alike : {es fs : List (List ℕ)} → Renamed es fs → Parts es → Alike es fs
renamed_alike Renamed.none Parts.none = Alike.none
renamed_alike (Renamed.more e name named others) (Parts.more size rest) =
    Alike.more (seq_renamed e name size named) (renamed_alike others rest)

acceptable_renamed : (h : PageHeader) {es fs : List (List ℕ)} (most : ℕ) → Renamed es fs → AcceptablePage h es most → AcceptablePage h fs most
acceptable_renamed h most renamed a =
    record {
      index = a.index;
      next = a.next;
      count = a.count;
      whole = count_renamed renamed ∙ a.whole;
      parts = parts_renamed renamed a.parts;
      within = a.within;
      given_out = a.given_out;
      issued = issued_alike h.next_seq (renamed_alike renamed a.parts) a.issued;
    }

pub names_ignored : NamesIgnored
names_ignored s fs index most h small is renamed =
    let same = (page_decoded s index most h is).same in
    subst (λ (i : ℕ). decode_page (page_bytes h fs) i most ≡ Ok h) same
    (page_read h fs most (acceptable_renamed h most renamed (accepted s index most h small is)))
