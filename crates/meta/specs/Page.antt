-- Table pages (docs/FORMAT.md, "Pages" and "Refusals"): the header, the checks in their order, and the bytes as they are written.
use Rattle.std.specs.Prelude.{◌≡◌, Bool, false, not, ◌||◌, ℕ, ◌+◌, ◌*◌, ◌/◌, ◌%◌, ◌^◌, ◌≤◌, ◌<◌, ◌==◌, nat_lt, nat_le, if◌then◌else◌, List, [], ◌∷◌, ◌++◌, length, take, drop, map, replicate, slice_index, Option, Some, None, Result, Ok, Err}
use Rattle.std.specs.Borrow.{Bor}
use Rattle.std.specs.Int.{w16, w32, to_le_bytes}
use Rattle.std.specs.List.{concat, list_all, list_any, flat_map}
use Rattle.std.specs.Simd.{first_chunks}
use Rattle.codec.specs.Bytes.{AllBytes, le16, le32}
use Rattle.codec.specs.Cursor.{◌>>=◌, run, number}
use Rattle.codec.specs.Place.{Part}
use Rattle.meta.specs.declared.meta.Field.{Field}
use Rattle.meta.specs.declared.meta.MetaError.{MetaError}
use Rattle.meta.specs.declared.meta2.PageHeader.{PageHeader}
use Rattle.meta.specs.declared.meta2.Page.{Page}
use Rattle.meta.specs.Error.{refused, after}

-- ---- reading

-- The header, then the fourteen bytes after it.
unfoldable pub header_at : List ℕ → Option (PageHeader × List ℕ)
header_at s = do
  index ← number w32 s (record { pos = 0 })
  next ← number w32 s index.1
  count ← number w16 s next.1
  reserved ← run 14 s count.1
  Some (record { page_index = index.0; next_seq = next.0; count = count.0 }, reserved.0)

-- The same by offsets.
abbrev pub header_fields : List ℕ → PageHeader
header_fields s = record { page_index = le32 s 0; next_seq = le32 s 4; count = le16 s 8 }

abbrev pub HeaderLayout : Type 0
HeaderLayout = (s : List ℕ) → header_at s ≡ (if nat_lt (length s) 24 then None else Some (header_fields s, take 14 (drop 10 s)))

-- An entry's sequence number.
abbrev pub seq : List ℕ → ℕ
seq e = le32 e 0

-- One of the entries has this number.
abbrev pub shares : ℕ → List (List ℕ) → Bool
shares n es = list_any (λ e. seq e == n) es

-- 31 seq; 22 zeros at 38.
abbrev pub check_own : ℕ → List ℕ → Result (Unit {0}) MetaError
check_own next e =
    if nat_le next (seq e) then refused Field.Seq
    else if not (slice_index e 38 == 0) || not (slice_index e 39 == 0) then refused Field.Reserved
    else Ok tt

-- By entry: its own, then 12 a later entry of the same number.
abbrev pub check_entries : ℕ → List (List ℕ) → Result (Unit {0}) MetaError
check_entries next [] = Ok tt
check_entries next (e ∷ es) = after (check_own next e) (if shares (seq e) es then Err MetaError.Duplicate else check_entries next es)

-- Parts of 96 bytes, one after the other.
abbrev pub parts : List ℕ → List (List ℕ)
parts s = first_chunks 96 (length s / 96) s

-- The entries stand after the header.
unfoldable pub entries : List ℕ → List (List ℕ)
entries s = parts (drop 24 s)

abbrev pub check_page : List ℕ → ℕ → ℕ → PageHeader → List ℕ → Result PageHeader MetaError
check_page s index most h reserved =
    if not (list_all (λ b. b == 0) reserved) then refused Field.Reserved
    else if not (h.page_index == index) then refused Field.PageIndex
    else if nat_lt most h.count || nat_lt h.next_seq h.count then refused Field.Count
    else if not (length s == 24 + h.count * 96) then Err MetaError.Length
    else after (check_entries h.next_seq (entries s)) (Ok h)

abbrev pub decoded_page : List ℕ → ℕ → ℕ → Option (PageHeader × List ℕ) → Result PageHeader MetaError
decoded_page s index most (Some read) = check_page s index most read.0 read.1
decoded_page s index most None = Err MetaError.Length

-- 11 below 24 bytes; 22 zeros; 29 index; 30 count above maximum or next seq; 11 length; then by entry.
unfoldable pub decode_page : List ℕ → ℕ → ℕ → Result PageHeader MetaError
decode_page s index most = decoded_page s index most (header_at s)

-- A page has its header, and as its entries the part of the bytes after it.
abbrev pub Gives : Bor (List ℕ) → Result Page MetaError → Result PageHeader MetaError → Type 0
Gives x (Ok p) answer = (answer ≡ Ok p.header) × Part x 24 (p.header.count * 96) p.entries
Gives x (Err e) answer = answer ≡ Err e

-- ---- writing

-- 0 index; 4 next seq; 8 count; 10 fourteen zeros.
abbrev pub header_row : PageHeader → List (List ℕ)
header_row h = to_le_bytes w32 h.page_index ∷ to_le_bytes w32 h.next_seq ∷ to_le_bytes w16 h.count ∷ replicate 14 0 ∷ []

unfoldable pub header_bytes : PageHeader → List ℕ
header_bytes h = concat (header_row h)

-- An entry's 96 bytes with zeros at 38.
abbrev pub stored_part : List ℕ → List ℕ
stored_part e = take 38 e ++ 0 ∷ 0 ∷ drop 40 e

unfoldable pub page_bytes : PageHeader → List (List ℕ) → List ℕ
page_bytes h es = header_bytes h ++ flat_map stored_part es

-- The buffer afterwards and the answer: 11 over 65,535 entries; 30 count; 11 buffer. Else the page's length. A refusal keeps the buffer.
unfoldable pub encode_page : PageHeader → List (List ℕ) → List ℕ → List ℕ × Result ℕ MetaError
encode_page h es out =
    if nat_lt 65535 (length es) then (out, Err MetaError.Length)
    else if not (length es == h.count) then (out, refused Field.Count)
    else if nat_lt (length out) (24 + length es * 96) then (out, Err MetaError.Length)
    else (page_bytes h es ++ drop (24 + length es * 96) out, Ok (24 + length es * 96))

-- The same of the entries in these bytes: 11 for a rest below 96 bytes, before all else.
abbrev pub encode_entries : PageHeader → List ℕ → List ℕ → List ℕ × Result ℕ MetaError
encode_entries h s out = if length s % 96 == 0 then encode_page h (parts s) out else (out, Err MetaError.Length)

-- ---- both

-- Sequence numbers that a page may hold: each is below the next one that the page gives out, and no two are the same.
pub data Issued (next : ℕ) : List (List ℕ) → Type 0 where
  none : Issued next []
  more : {e : List ℕ} {es : List (List ℕ)} → seq e < next → shares (seq e) es ≡ false → Issued next es → Issued next (e ∷ es)

-- Each entry has 96 bytes.
pub data Parts : List (List ℕ) → Type 0 where
  none : Parts []
  more : {e : List ℕ} {es : List (List ℕ)} → length e ≡ 96 → Parts es → Parts (e ∷ es)

-- What a header and entries must hold to be decoded as a page of at most `most` entries.
pub record AcceptablePage (h : PageHeader) (es : List (List ℕ)) (most : ℕ) : Type 0 where
  pub index : h.page_index < 2 ^ 32
  pub next : h.next_seq < 2 ^ 32
  pub count : h.count < 2 ^ 16
  pub whole : length es ≡ h.count
  pub parts : Parts es
  pub within : h.count ≤ most
  pub given_out : h.count ≤ h.next_seq
  pub issued : Issued h.next_seq es

-- An acceptable page that was written is read back with its header and its entries, zeros at 38; a page that is read is acceptable, and
-- is written as the bytes that it was read from.
pub record PagesBack : Type 0 where
  pub read_back : (h : PageHeader) (es : List (List ℕ)) (out : List ℕ) (len most : ℕ) → (encode_page h es out).1 ≡ Ok len → AcceptablePage h es most
      → decode_page (take len (encode_page h es out).0) h.page_index most ≡ Ok h
  pub entries_back : (h : PageHeader) (es : List (List ℕ)) (out : List ℕ) (len most : ℕ) → (encode_page h es out).1 ≡ Ok len → AcceptablePage h es most
      → entries (take len (encode_page h es out).0) ≡ map stored_part es
  pub accepted : (s : List ℕ) (index most : ℕ) (h : PageHeader) → AllBytes s → decode_page s index most ≡ Ok h
      → AcceptablePage h (entries s) most
  pub written_back : (s : List ℕ) (index most : ℕ) (h : PageHeader) → AllBytes s → decode_page s index most ≡ Ok h
      → page_bytes h (entries s) ≡ s

-- The same entries with other names, each of 24 bytes at 8.
pub data Renamed : List (List ℕ) → List (List ℕ) → Type 0 where
  none : Renamed [] []
  more : (e name : List ℕ) {es fs : List (List ℕ)} → length name ≡ 24 → Renamed es fs → Renamed (e ∷ es) ((take 8 e ++ name ++ drop 32 e) ∷ fs)

-- A page that is read is read with any names in its entries.
abbrev pub NamesIgnored : Type 0
NamesIgnored = (s : List ℕ) (fs : List (List ℕ)) (index most : ℕ) (h : PageHeader) → AllBytes s → decode_page s index most ≡ Ok h
    → Renamed (entries s) fs → decode_page (page_bytes h fs) index most ≡ Ok h
