-- The encoding of a scalar value (docs/FORMAT.md, "Names") in RFC 3629, section 3: its bits from the highest on, six in each byte but the
-- first.
use Rattle.std.specs.Prelude.{◌≡◌, true, List, [], ◌∷◌, ◌++◌, ℕ, ◌+◌, ◌/◌, ◌%◌, ◌≤◌, ◌<◌, nat_lt, if◌then◌else◌}
use Rattle.meta.specs.Utf8.{utf8}

-- 0 to 10FFFF without the surrogates D800 to DFFF.
pub data Scalar : ℕ → Type 0 where
  low : {v : ℕ} → v < 0xD800 → Scalar v
  high : {v : ℕ} → 0xE000 ≤ v → v ≤ 0x10_FFFF → Scalar v

pub data Scalars : List ℕ → Type 0 where
  none : Scalars []
  some : {v : ℕ} {vs : List ℕ} → Scalar v → Scalars vs → Scalars (v ∷ vs)

unfoldable pub encode : ℕ → List ℕ
encode v =
    if nat_lt v 0x80 then v ∷ []
    else if nat_lt v 0x800 then (0xC0 + v / 64) ∷ (0x80 + v % 64) ∷ []
    else if nat_lt v 0x1_0000 then (0xE0 + v / 4096) ∷ (0x80 + v / 64 % 64) ∷ (0x80 + v % 64) ∷ []
    else (0xF0 + v / 262144) ∷ (0x80 + v / 4096 % 64) ∷ (0x80 + v / 64 % 64) ∷ (0x80 + v % 64) ∷ []

abbrev pub encode_all : List ℕ → List ℕ
encode_all [] = []
encode_all (v ∷ vs) = encode v ++ encode_all vs

-- s is the encoding of a run of scalar values.
pub record Encoded (s : List ℕ) : Type 0 where
  pub values : List ℕ
  pub scalars : Scalars values
  pub is : s ≡ encode_all values

-- The grammar accepts these and nothing else.
abbrev pub GrammarEncodes : Type 0
GrammarEncodes = (s : List ℕ) → (utf8 s ≡ true → Encoded s) × (Encoded s → utf8 s ≡ true)
