-- A region's name: 1 to 24 printable bytes of UTF-8; stored in 24 bytes, zeros after it (docs/FORMAT.md, "Names").
use Rattle.std.specs.Prelude.{◌≡◌, ◌≢◌, ◌≤◌, Bool, true, not, ◌&&◌, ◌==◌, nat_le, nat_lt, if◌then◌else◌, List, [], ◌++◌, ℕ, ◌-◌, length, take, drop, replicate, Option, Some, None, Result, Ok}
use Rattle.std.specs.List.{All, list_all, position_or_len}
use Rattle.std.specs.Option.{ok_or}
use Rattle.meta.specs.declared.meta.Field.{Field}
use Rattle.meta.specs.declared.meta.MetaError.{MetaError}
use Rattle.meta.specs.declared.meta.RegionName.{RegionName}
use Rattle.meta.specs.Utf8.{utf8}
use Rattle.meta.specs.Scalar.{Encoded}

-- Where the first zero stands, or the length.
abbrev pub zero_at : List ℕ → ℕ
zero_at s = position_or_len (λ b. b == 0) s

-- 20 (hexadecimal) or above, and not 7F.
abbrev pub is_printable : ℕ → Bool
is_printable b = nat_le 0x20 b && not (b == 0x7F)

-- Which bytes are a name. A zero byte is not printable.
unfoldable pub is_name : List ℕ → Bool
is_name s = not (length s == 0) && nat_le (length s) 24 && list_all is_printable s && utf8 s

-- A name as it is stored.
abbrev pub stored_name : List ℕ → RegionName
stored_name s = record { bytes = s ++ replicate (24 - length s) 0; len = length s }

unfoldable pub name_of : List ℕ → Option RegionName
name_of s = if is_name s then Some (stored_name s) else None

-- The same of 24 stored bytes: the name ends at the first zero, and all after it is zero.
unfoldable pub name_in : List ℕ → Option RegionName
name_in raw = if list_all (λ b. b == 0) (drop (zero_at raw) raw) then name_of (take (zero_at raw) raw) else None

-- 35 where there is none.
abbrev pub named : List ℕ → Result RegionName MetaError
named s = ok_or (name_of s) (MetaError.Field Field.Name)

abbrev pub padded : List ℕ → Result RegionName MetaError
padded raw = ok_or (name_in raw) (MetaError.Field Field.Name)

-- Bytes as text; none where they are not UTF-8.
abbrev pub text : List ℕ → List ℕ
text s = if utf8 s then s else []

abbrev pub name_text : RegionName → List ℕ
name_text name = if nat_lt 24 name.len then [] else text (take name.len name.bytes)

-- A byte or a scalar value that is printable.
pub record IsPrintable (b : ℕ) : Type 0 where
  pub from_20 : 0x20 ≤ b
  pub not_7f : b ≢ 0x7F

-- The test passes if and only if each byte is printable.
abbrev pub PrintableAre : Type 0
PrintableAre = (s : List ℕ) → (list_all is_printable s ≡ true → All IsPrintable s) × (All IsPrintable s → list_all is_printable s ≡ true)

-- The encodings of printable scalar values in 1 to 24 bytes. The control characters from 80 to 9F are among them, since their bytes are 80
-- or above.
pub record IsName (s : List ℕ) : Type 0 where
  pub some : 1 ≤ length s
  pub short : length s ≤ 24
  pub encoded : Encoded s
  pub printable : All IsPrintable encoded.values

-- These are names, and nothing else is.
unfoldable pub NamesAre : Type 0
NamesAre = (s : List ℕ) → (is_name s ≡ true → IsName s) × (IsName s → is_name s ≡ true)

-- A name is read back from the bytes that it is stored as, and 24 bytes that are read as a name are the bytes that it is stored as. It
-- reads as the text that it was made of.
pub record NamesBack : Type 0 where
  pub read_back : (s : List ℕ) (name : RegionName) → named s ≡ Ok name → padded name.bytes ≡ Ok name
  pub stored_back : (raw : List ℕ) (name : RegionName) → padded raw ≡ Ok name → length raw ≡ 24 → name.bytes ≡ raw
  pub text_back : (s : List ℕ) (name : RegionName) → named s ≡ Ok name → name_text name ≡ s
