-- Laws of region names: what an accepted name is, and that storing a name and reading it back are inverse to each other.
use Rattle.std.proofs.Common.{◌≡◌, refl, sym, ap, ap₂, ◌∙◌, Bool, true, false, cond, not, ◌&&◌, List, [], ◌∷◌, ◌++◌, ℕ, zero, suc, ◌+◌, ◌-◌, ◌≤◌, ◌<◌, ◌==◌, arith, eq-eqb, ne_eqb, le-ltb, le-leb, eqb-true, length, take, drop, replicate, Option, Some, None, Ok, length-drop, take-append-drop, length-take-le, take_at, drop_at}
use Rattle.std.specs.Prelude.{if◌then◌else◌}
use Rattle.std.specs.Option.{MatchOption, ok_or, unwrap_or}
use Rattle.std.specs.List.{All, AllWithin, HoldsAt, list_all}
use Rattle.std.proofs.lemmas.List.Sums.{position_or_len_is, AllPass-from_list_all, list_all-from_AllPass}
use Rattle.std.proofs.lemmas.List.Folds.{list_all-append}
use Rattle.std.proofs.Math.Bool.{and-eq-true_iff, and-true}
use Rattle.meta.specs.Utf8.{utf8}
use Rattle.meta.specs.Scalar.{encode, encode_all}
use Rattle.meta.specs.Name.{is_printable, is_name, zero_at, stored_name, name_of, name_in, named, padded, name_text, IsPrintable, PrintableAre, IsName, NamesAre, NamesBack}
use Rattle.meta.specs.declared.meta.Field.{Field}
use Rattle.meta.specs.declared.meta.MetaError.{MetaError}
use Rattle.meta.specs.declared.meta.RegionName.{RegionName}
use Rattle.meta.proofs.Encoding.{by_below, encode_one, encode_high}
use Rattle.meta.proofs.Utf8Laws.{utf8_encoded, encoded_utf8}

-- ---- printable bytes

tested_is : (b : ℕ) → is_printable b ≡ true → IsPrintable b
tested_is b test = grind arith

is_tested : (b : ℕ) → IsPrintable b → is_printable b ≡ true
is_tested b is = rw (le-leb 0x20 b is.from_20, ne_eqb b 0x7F is.not_7f) refl

each_printable : (s : List ℕ) → list_all is_printable s ≡ true → All IsPrintable s
each_printable s test k d within = tested_is _ (AllPass-from_list_all is_printable s test k d within)

printable_each : (s : List ℕ) → All IsPrintable s → list_all is_printable s ≡ true
printable_each s each = list_all-from_AllPass is_printable s (λ k d within. is_tested _ (each k d within))

pub printable_are : PrintableAre
printable_are s = (each_printable s, printable_each s)

beyond : (b : ℕ) → 0x80 ≤ b → IsPrintable b
beyond b high = record { from_20 = omega arith; not_7f = λ is. omega (arith, is) }

-- A value's encoding is printable if the value is: all the bytes of a longer one are 80 or above.
encode_printable : (v : ℕ) → list_all is_printable (encode v) ≡ is_printable v
encode_printable v =
    by_below v 0x80 (λ end. rw (encode_one v end) (and-true (is_printable v)))
    (λ from-80. encode_high v is_printable (λ b high. is_tested b (beyond b high)) from-80 ∙ sym (is_tested v (beyond v from-80)))

all_printable : (vs : List ℕ) → list_all is_printable (encode_all vs) ≡ list_all is_printable vs
all_printable [] = refl
all_printable (v ∷ vs) = list_all-append is_printable (encode v) (encode_all vs) ∙ ap₂ (λ (l r : Bool). l && r) (encode_printable v) (all_printable vs)

-- ---- an accepted name

pub name_length : (s : List ℕ) → is_name s ≡ true → length s ≤ 24
unfolding is_name
name_length s is = grind arith

name_printable : (s : List ℕ) → is_name s ≡ true → list_all is_printable s ≡ true
unfolding is_name
name_printable s is = grind arith

name_is : (s : List ℕ) → is_name s ≡ true → IsName s
unfolding is_name
name_is s is =
    let whole : utf8 s ≡ true = grind arith in
    let encoded = utf8_encoded s whole in
    let values : list_all is_printable encoded.values ≡ true =
    sym (all_printable encoded.values) ∙ ap (list_all is_printable) (sym encoded.is) ∙ name_printable s is in
    record { some = grind arith; short = grind arith; encoded = encoded; printable = each_printable encoded.values values }

is_named : (s : List ℕ) → IsName s → is_name s ≡ true
unfolding is_name
is_named s is =
    let empty : (length s == 0) ≡ false = ne_eqb (length s) 0 (λ none. omega (arith, is.some)) in
    let pass : list_all is_printable s ≡ true =
    ap (list_all is_printable) is.encoded.is ∙ all_printable is.encoded.values ∙ printable_each is.encoded.values is.printable in
    rw (empty, le-leb (length s) 24 is.short, pass) (encoded_utf8 s is.encoded)

pub names_are : NamesAre
unfolding NamesAre
names_are s = (name_is s, is_named s)

-- ---- where the first zero stands

abbrev First : Option ℕ → List ℕ → Type 0
First r s =
    MatchOption r (AllWithin (λ (b : ℕ). (b == 0) ≡ false) s 0 (length s))
    (λ i. (i < length s) × HoldsAt (λ (b : ℕ). (b == 0) ≡ true) s i × AllWithin (λ (b : ℕ). (b == 0) ≡ false) s 0 i)

pub first_or_end : (r : Option ℕ) (s : List ℕ) → First r s → unwrap_or r (length s) ≡ zero_at s
first_or_end (Some i) s at = sym (position_or_len_is (λ (b : ℕ). b == 0) s i 0 (omega (arith, at.0)) (λ k h. at.2 k 0 (omega arith) h) (λ h. at.1 0))
first_or_end None s all = sym (position_or_len_is (λ (b : ℕ). b == 0) s (length s) 0 (omega arith) (λ k h. all k 0 (omega arith) h) (λ h. absurd (omega arith)))

zero_within : (s : List ℕ) → zero_at s ≤ length s
zero_within [] = omega arith
zero_within (b ∷ s) = go (b == 0) (zero_within s)
  where
    go : (first : Bool) → zero_at s ≤ length s → cond (not first) (1 + zero_at s) 0 ≤ suc (length s)
    go true rest = omega arith
    go false rest = omega arith

zero_behind : (s : List ℕ) (n : ℕ) → list_all is_printable s ≡ true → zero_at (s ++ replicate n 0) ≡ length s
zero_behind [] zero pass = refl
zero_behind [] (suc n) pass = refl
zero_behind (b ∷ s) n pass =
    let parts = (and-eq-true_iff (is_printable b) (list_all is_printable s)).0 pass in
    let first = tested_is b parts.0 in
    let none : (b == 0) ≡ false = ne_eqb b 0 (λ zero. omega (arith, first.from_20)) in
    rw (none, zero_behind s n parts.1) (omega arith)

zeros_zero : (n : ℕ) → list_all (λ b. b == 0) (replicate n 0) ≡ true
zeros_zero zero = refl
zeros_zero (suc n) = zeros_zero n

pub all_zeros : (s : List ℕ) → list_all (λ b. b == 0) s ≡ true → s ≡ replicate (length s) 0
all_zeros [] zeros = refl
all_zeros (b ∷ s) zeros = go (b == 0) refl zeros (all_zeros s)
  where
    go : (first : Bool) → (b == 0) ≡ first → (first && list_all (λ b. b == 0) s) ≡ true → (list_all (λ b. b == 0) s ≡ true → s ≡ replicate (length s) 0)
        → b ∷ s ≡ replicate (suc (length s)) 0
    go true test zeros rest = let here = eqb-true b 0 test in let behind = rest zeros in cc
    go false test zeros rest = let never : ◌≡◌ {A = ℕ} 0 1 = cc in absurd (omega arith)

-- ---- a name as it is made

pub named-name : (s copied rest : List ℕ) → is_name s ≡ true → copied ≡ s → rest ≡ replicate (24 - length s) 0
    → Ok (record { bytes = copied ++ rest; len = length s }) ≡ named s
unfolding name_of
named-name s copied rest is same zeros = rw (is, same, zeros) refl

pub room : (s zeros : List ℕ) → is_name s ≡ true → length zeros ≡ 24 → length (take (length s) zeros) ≡ length s
room s zeros is size = length-take-le (length s) zeros (omega (arith, size, name_length s is))

pub copied : (s zeros t : List ℕ) → is_name s ≡ true → length zeros ≡ 24
    → t ≡ (if length (take (length s) zeros) == length s then s else take (length s) zeros) → t ≡ s
copied s zeros t is size copy = copy ∙ rw (eq-eqb (length (take (length s) zeros)) (length s) (room s zeros is size)) refl

-- What is given is the name as it is stored, and the bytes were a name.
given : (s : List ℕ) (name : RegionName) → named s ≡ Ok name → (is_name s ≡ true) × (name ≡ stored_name s)
unfolding name_of
given s name is = go (is_name s) is
  where
    go : (ok : Bool) → ok_or (if ok then Some (stored_name s) else None) (MetaError.Field Field.Name) ≡ Ok name → (ok ≡ true) × (name ≡ stored_name s)
    go true is = (refl, cc)
    go false is = let never : ◌≡◌ {A = ℕ} 0 1 = cc in absurd (omega arith)

-- ---- read back

pub stored_bytes : (raw : List ℕ) (name : RegionName) → padded raw ≡ Ok name → length raw ≡ 24 → name.bytes ≡ raw
unfolding name_in
stored_bytes raw name is size = go (list_all (λ b. b == 0) padding) refl is
  where
    text : List ℕ
    text = take (zero_at raw) raw

    padding : List ℕ
    padding = drop (zero_at raw) raw

    go : (zeros : Bool) → list_all (λ b. b == 0) padding ≡ zeros → ok_or (if zeros then name_of text else None) (MetaError.Field Field.Name) ≡ Ok name → name.bytes ≡ raw
    go false test is = let never : ◌≡◌ {A = ℕ} 0 1 = cc in absurd (omega arith)
    go true test is =
        let front : length text ≡ zero_at raw = length-take-le (zero_at raw) raw (zero_within raw) in
        let behind : length padding ≡ 24 - length text = simp length-drop (omega arith) in
        ap (λ (n : RegionName). n.bytes) (given text name is).1
        ∙ ap (λ (n : ℕ). text ++ replicate n 0) (sym behind)
        ∙ ap (λ (l : List ℕ). text ++ l) (sym (all_zeros padding test))
        ∙ take-append-drop (zero_at raw) raw

module _ (s : List ℕ) (ok : is_name s ≡ true) where
  abbrev zeros : List ℕ
  zeros = replicate (24 - length s) 0

  end : zero_at (s ++ zeros) ≡ length s
  end = zero_behind s (24 - length s) (name_printable s ok)

  read_stored : padded (s ++ zeros) ≡ Ok (stored_name s)
  unfolding name_in name_of
  read_stored =
      let front : take (zero_at (s ++ zeros)) (s ++ zeros) ≡ s = take_at s zeros (zero_at (s ++ zeros)) (sym end) in
      let behind : list_all (λ b. b == 0) (drop (zero_at (s ++ zeros)) (s ++ zeros)) ≡ true =
      ap (list_all (λ b. b == 0)) (drop_at s zeros (zero_at (s ++ zeros)) (sym end)) ∙ zeros_zero (24 - length s) in
      rw (behind, front, ok) refl

  text_stored : name_text (stored_name s) ≡ s
  text_stored =
      rw (le-ltb 24 (length s) (name_length s ok), take_at s zeros (length s) refl, encoded_utf8 s (name_is s ok).encoded) refl

pub names_back : NamesBack
names_back =
    record {
      read_back = λ s name is. let made = given s name is in simp made.1 (read_stored s made.0);
      stored_back = stored_bytes;
      text_back = λ s name is. let made = given s name is in simp made.1 (text_stored s made.0);
    }
