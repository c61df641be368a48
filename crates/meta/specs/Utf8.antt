-- UTF-8 (docs/FORMAT.md, "Names") by the grammar of RFC 3629, section 4. That it gives exactly the encodings of runs of scalar values,
-- section 3's definition, is a law (GrammarEncodes of Scalar.antt).
use Rattle.std.specs.Prelude.{Bool, true, false, ◌&&◌, ◌||◌, ◌==◌, List, [], ◌∷◌, ℕ, zero, suc, nat_le, length, drop}
use Rattle.std.specs.List.{list_any}

-- The bytes from the first number to the second.
abbrev pub Range : Type 0
Range = ℕ × ℕ

abbrev pub utf8_tail : Range
utf8_tail = (0x80, 0xBF)

-- The alternatives of UTF8-1 to UTF8-4, each the ranges of its bytes.
abbrev pub utf8_char : List (List Range)
utf8_char =
    ((0x00, 0x7F) ∷ [])
    ∷ ((0xC2, 0xDF) ∷ utf8_tail ∷ [])
    ∷ ((0xE0, 0xE0) ∷ (0xA0, 0xBF) ∷ utf8_tail ∷ [])
    ∷ ((0xE1, 0xEC) ∷ utf8_tail ∷ utf8_tail ∷ [])
    ∷ ((0xED, 0xED) ∷ (0x80, 0x9F) ∷ utf8_tail ∷ [])
    ∷ ((0xEE, 0xEF) ∷ utf8_tail ∷ utf8_tail ∷ [])
    ∷ ((0xF0, 0xF0) ∷ (0x90, 0xBF) ∷ utf8_tail ∷ utf8_tail ∷ [])
    ∷ ((0xF1, 0xF3) ∷ utf8_tail ∷ utf8_tail ∷ utf8_tail ∷ [])
    ∷ ((0xF4, 0xF4) ∷ (0x80, 0x8F) ∷ utf8_tail ∷ utf8_tail ∷ [])
    ∷ []

-- The first bytes of s are in the ranges of the row, one in each.
abbrev pub begins : List Range → List ℕ → Bool
begins [] s = true
begins (range ∷ row) [] = false
begins (range ∷ row) (b ∷ s) = nat_le range.0 b && nat_le b range.1 && begins row s

-- A run of at most n characters: no bytes, or an alternative's in front and after them a run of one character less.
unfoldable pub utf8_octets : ℕ → List ℕ → Bool
utf8_octets zero s = length s == 0
utf8_octets (suc n) s = length s == 0 || list_any (λ row. begins row s && utf8_octets n (drop (length row) s)) utf8_char

-- Any number of characters; there are no more of them than bytes.
unfoldable pub utf8 : List ℕ → Bool
utf8 s = utf8_octets (length s) s
