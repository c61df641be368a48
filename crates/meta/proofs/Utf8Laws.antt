-- Bytes are UTF-8 by the grammar of RFC 3629 if and only if they are the encoding of a run of scalar values.
use Rattle.std.proofs.Common.{Result, Ok, Err, ◌≡◌, refl, sym, ap, ap₂, ◌∙◌, subst, Bool, true, false, lt-ltb, le-ltb, le-leb, ◌&&◌, List, [], ◌∷◌, ◌++◌, ℕ, zero, suc, ◌≤◌, arith, eq-eqb, ne_eqb, eqb-true, eqb, length, take, drop, length-append, take-append-drop}
use Rattle.std.proofs.Math.Bool.{and-eq-true_iff, or-true}
use Rattle.std.specs.Char.{encode_utf8, IsScalar}
use Rattle.std.specs.Prelude.{MatchResult}
use Rattle.std.specs.Result.{is_ok}
use Rattle.std.specs.Str.{IsUtf8, encode_utf8_all, all_scalars}
use lib.Utf8.{scalar, scalar_cases}
use mathlib.Core.Logic.{⊎_elim}
use Rattle.meta.specs.Utf8.{Range, utf8_char, begins, utf8_octets, utf8}
use Rattle.meta.specs.Scalar.{Scalar, encode, encode_all, Scalars, Encoded, GrammarEncodes}
use Rattle.meta.proofs.Rows.{begins_fits, fits_begins, fits_behind, some_found, some_at}
use Rattle.meta.proofs.Encoding.{row, Encodes, encode_some, rows_valued, value_placed}

-- A row's bytes in front, and after them at most n characters.
abbrev front : ℕ → List ℕ → List Range → Bool
front n s ranges = begins ranges s && utf8_octets n (drop (length ranges) s)

-- ---- UTF-8 is an encoding

encoded_none : Encoded []
encoded_none = record { values = []; scalars = Scalars.none; is = refl }

encoded_more : {c s : List ℕ} → Encodes c → Encoded s → Encoded (c ++ s)
encoded_more first others =
    record {
      values = first.value ∷ others.values;
      scalars = Scalars.some first.scalar others.scalars;
      is = ap₂ (λ (l r : List ℕ). l ++ r) first.is others.is;
    }

octets_encoded : (n : ℕ) (s : List ℕ) → utf8_octets n s ≡ true → Encoded s
unfolding utf8_octets
octets_encoded zero [] is = encoded_none
octets_encoded zero (b ∷ s) is = let empty : suc (length s) ≡ 0 = eqb-true _ _ is in absurd (omega arith)
octets_encoded (suc n) [] is = encoded_none
octets_encoded (suc n) (b ∷ s) is =
    let found = some_found (front n (b ∷ s)) utf8_char rows_valued (rw (ne_eqb (suc (length s)) 0 (λ none. omega arith)) at is) in
    let size : ℕ = length found.row in
    let parts = (and-eq-true_iff (begins found.row (b ∷ s)) (utf8_octets n (drop size (b ∷ s)))).0 found.is in
    let first = found.holds (take size (b ∷ s)) (begins_fits found.row (b ∷ s) parts.0) in
    subst Encoded (take-append-drop size (b ∷ s)) (encoded_more first (octets_encoded n (drop size (b ∷ s)) parts.1))

pub utf8_encoded : (s : List ℕ) → utf8 s ≡ true → Encoded s
unfolding utf8
utf8_encoded s is = octets_encoded (length s) s is

-- ---- an encoding is UTF-8

encoded_octets : (n : ℕ) {vs : List ℕ} → Scalars vs → length (encode_all vs) ≤ n → utf8_octets n (encode_all vs) ≡ true
unfolding utf8_octets
encoded_octets zero {vs} scalars within = eq-eqb (length (encode_all vs)) 0 (omega arith)
encoded_octets (suc n) Scalars.none within = refl
encoded_octets (suc n) (Scalars.some {v = v} {vs = vs} scalar rest) within =
    let behind : List ℕ = encode_all vs in
    let at = value_placed v scalar in
    let short : length behind ≤ n = omega (arith, length-append (encode v) behind, encode_some v) in
    let run : utf8_octets n (drop (length (row at.place)) (encode v ++ behind)) ≡ true =
    ap (utf8_octets n) (fits_behind behind at.fits) ∙ encoded_octets n rest short in
    rw (some_at (front n (encode v ++ behind)) utf8_char at.place at.inside (rw (fits_begins behind at.fits) run)) (or-true (eqb (length (encode v ++ behind)) 0))

pub encoded_utf8 : (s : List ℕ) → Encoded s → utf8 s ≡ true
unfolding utf8
encoded_utf8 s encoded = rw encoded.is (encoded_octets (length (encode_all encoded.values)) encoded.scalars (omega arith))

pub grammar_encodes : GrammarEncodes
grammar_encodes s = (utf8_encoded s, encoded_utf8 s)

-- ---- the same as std's

encode_std : (v : ℕ) → encode_utf8 v ≡ encode v
unfolding encode encode_utf8
encode_std v = refl

all_std : (vs : List ℕ) → encode_utf8_all vs ≡ encode_all vs
all_std [] = refl
all_std (v ∷ vs) = ap₂ (λ (l r : List ℕ). l ++ r) (encode_std v) (all_std vs)

scalar_std : {v : ℕ} → Scalar v → IsScalar v
scalar_std {v} (Scalar.low small) = rw (lt-ltb v 0xD800 small)
scalar_std {v} (Scalar.high from to) = rw (le-ltb v 0xD800 (omega arith), le-leb 0xE000 v from, lt-ltb v 0x11_0000 (omega arith))

scalars_std : {vs : List ℕ} → Scalars vs → all_scalars vs ≡ true
scalars_std Scalars.none = refl
scalars_std (Scalars.some first others) = rw (scalar_std first) (scalars_std others)

std_scalar : (v : ℕ) → IsScalar v → Scalar v
std_scalar v is = ⊎_elim (λ small. Scalar.low small) (λ large. Scalar.high large.0 (omega arith)) (scalar_cases v is)

std_scalars : (vs : List ℕ) → all_scalars vs ≡ true → Scalars vs
std_scalars [] is = Scalars.none
std_scalars (v ∷ vs) is =
    let parts = (and-eq-true_iff (scalar v) (all_scalars vs)).0 is in
    Scalars.some (std_scalar v parts.0) (std_scalars vs parts.1)

pub utf8_from_std : (s : List ℕ) → IsUtf8 s → utf8 s ≡ true
utf8_from_std s is = encoded_utf8 s (record { values = is.0; scalars = std_scalars is.0 is.1.0; is = sym is.1.1 ∙ all_std is.0 })

pub not_utf8 : (s : List ℕ) → ¬ (IsUtf8 s) → utf8 s ≡ false
not_utf8 s not = go (utf8 s) refl
  where
    go : (test : Bool) → utf8 s ≡ test → utf8 s ≡ false
    go false is = is
    go true is =
        let encoded = utf8_encoded s is in
        absurd (not (encoded.values, (scalars_std encoded.scalars, all_std encoded.values ∙ sym encoded.is)))

pub told : {T E : Type 0} (P : T → Type 0) (Q : E → Type 0) (s : List ℕ) (read : Result T E)
    → MatchResult read (λ t. P t × IsUtf8 s) (λ e. ¬ (IsUtf8 s) × Q e) → is_ok read ≡ utf8 s
told P Q s (Ok t) cases = sym (utf8_from_std s cases.1)
told P Q s (Err e) cases = sym (not_utf8 s cases.0)
