-- The bytes of a row of the grammar are the encoding of a scalar value, and a scalar value's encoding fits one of the rows: the value is
-- computed from the bytes, and the row goes by the range that the value is in.
use Rattle.std.proofs.Common.{◌≡◌, refl, Bool, true, false, ltb, ltb-true, ltb-false, sym, ◌∙◌, List, [], ◌∷◌, ℕ, ◌+◌, ◌-◌, ◌*◌, ◌/◌, ◌%◌, ◌≤◌, ◌<◌, arith, lt-ltb, le-ltb, length, get_or}
use Rattle.std.specs.List.{list_all}
use Rattle.meta.specs.Utf8.{Range, utf8_tail, utf8_char}
use Rattle.meta.specs.Scalar.{encode, Scalar}
use Rattle.meta.proofs.Rows.{Fits, Bounds, bounds_fit, All, ◌and◌}

-- A row of the grammar by its place, and a range of it by its place there.
abbrev pub row : ℕ → List Range
row k = get_or utf8_char k []

abbrev range : ℕ → ℕ → Range
range k i = get_or (row k) i utf8_tail

-- ---- the encoding by its length

pub by_below : {P : Type 0} (a k : ℕ) → (a < k → P) → (k ≤ a → P) → P
by_below {P} a k below above = go (ltb a k) refl
  where
    go : (test : Bool) → ltb a k ≡ test → P
    go true is = below (ltb-true a k is)
    go false is = above (ltb-false a k is)

module _ (v : ℕ) where
  abbrev one_byte : List ℕ
  one_byte = v ∷ []

  abbrev two_bytes : List ℕ
  two_bytes = (0xC0 + v / 64) ∷ (0x80 + v % 64) ∷ []

  abbrev three_bytes : List ℕ
  three_bytes = (0xE0 + v / 4096) ∷ (0x80 + v / 64 % 64) ∷ (0x80 + v % 64) ∷ []

  abbrev four_bytes : List ℕ
  four_bytes = (0xF0 + v / 262144) ∷ (0x80 + v / 4096 % 64) ∷ (0x80 + v / 64 % 64) ∷ (0x80 + v % 64) ∷ []

  pub encode_one : v < 0x80 → encode v ≡ one_byte
  unfolding encode
  encode_one below = rw (lt-ltb v 0x80 below)

  encode_two : 0x80 ≤ v → v < 0x800 → encode v ≡ two_bytes
  unfolding encode
  encode_two from below = rw (le-ltb v 0x80 from, lt-ltb v 0x800 below)

  encode_three : 0x800 ≤ v → v < 0x1_0000 → encode v ≡ three_bytes
  unfolding encode
  encode_three from below = rw (le-ltb v 0x80 (omega arith), le-ltb v 0x800 from, lt-ltb v 0x1_0000 below)

  encode_four : 0x1_0000 ≤ v → encode v ≡ four_bytes
  unfolding encode
  encode_four from = rw (le-ltb v 0x80 (omega arith), le-ltb v 0x800 (omega arith), le-ltb v 0x1_0000 from)

  pub encode_some : 1 ≤ length (encode v)
  encode_some =
      by_below v 0x80 (λ end. rw (encode_one end) (omega arith))
      (λ from-80. by_below v 0x800 (λ end. rw (encode_two from-80 end) (omega arith))
      (λ from-800. by_below v 0x1_0000 (λ end. rw (encode_three from-800 end) (omega arith))
      (λ from-10000. rw (encode_four from-10000) (omega arith))))

  -- All bytes of a longer encoding are 80 or above.
  pub encode_high : (test : ℕ → Bool) → ((b : ℕ) → 0x80 ≤ b → test b ≡ true) → 0x80 ≤ v → list_all test (encode v) ≡ true
  encode_high test high from-80 =
      let last : test (0x80 + v % 64) ≡ true = high (0x80 + v % 64) (omega arith) in
      let third : test (0x80 + v / 64 % 64) ≡ true = high (0x80 + v / 64 % 64) (omega arith) in
      by_below v 0x800 (λ end. rw (encode_two from-80 end, high (0xC0 + v / 64) (omega arith), last) refl)
      (λ from-800. by_below v 0x1_0000 (λ end. rw (encode_three from-800 end, high (0xE0 + v / 4096) (omega arith), third, last) refl)
      (λ from-10000. rw (encode_four from-10000, high (0xF0 + v / 262144) (omega arith), high (0x80 + v / 4096 % 64) (omega arith), third, last) refl))

-- ---- the value of a row's bytes

pub record Encodes (s : List ℕ) : Type 0 where
  pub value : ℕ
  pub scalar : Scalar value
  pub is : s ≡ encode value

abbrev pub Valued : List Range → Type 0
Valued ranges = (s : List ℕ) → Fits ranges s → Encodes s

one_row : Valued (row 0)
one_row s (Fits.byte {b = a} from to Fits.none) =
    record { value = a; scalar = Scalar.low {v = a} (omega arith); is = sym (encode_one a (omega arith)) }

two_row : Valued (row 1)
two_row s (Fits.byte {b = a} from-a to-a (Fits.byte {b = b} from-b to-b Fits.none)) =
    let v : ℕ = 64 * a + b - (64 * 0xC0 + 0x80) in
    let a-is : 0xC0 + v / 64 ≡ a = omega arith in
    let b-is : 0x80 + v % 64 ≡ b = omega arith in
    record { value = v; scalar = Scalar.low {v = v} (omega arith); is = sym (encode_two v (omega arith) (omega arith) ∙ rw (a-is, b-is)) }

abbrev three : ℕ → ℕ → ℕ → ℕ
three a b c = 4096 * a + 64 * b + c - (4096 * 0xE0 + 64 * 0x80 + 0x80)

abbrev four : ℕ → ℕ → ℕ → ℕ → ℕ
four a b c d = 262144 * a + 4096 * b + 64 * c + d - (262144 * 0xF0 + 4096 * 0x80 + 64 * 0x80 + 0x80)

-- The numbers from one to another are scalar values: all below the surrogates, or all above them.
abbrev AllScalar : ℕ → ℕ → Type 0
AllScalar low high = (v : ℕ) → low ≤ v → v ≤ high → Scalar v

below : {low high : ℕ} → high < 0xD800 → AllScalar low high
below end v from to = Scalar.low {v = v} (omega arith)

above : {low high : ℕ} → 0xE000 ≤ low → high ≤ 0x10_FFFF → AllScalar low high
above start end v from to = Scalar.high {v = v} (omega arith) (omega arith)

-- A row of three or four bytes has the values from that of its lowest bytes to that of its highest ones.
module _ (first second : Range) (from-80 : 0x80 ≤ second.0) (to-bf : second.1 ≤ 0xBF) where
  three_row : 0xE0 ≤ first.0 → first.1 ≤ 0xEF → 0x800 ≤ three first.0 second.0 0x80
      → AllScalar (three first.0 second.0 0x80) (three first.1 second.1 0xBF)
      → Valued (first ∷ second ∷ utf8_tail ∷ [])
  three_row from-e0 to-ef from-800 scalars s (Fits.byte {b = a} from-a to-a (Fits.byte {b = b} from-b to-b (Fits.byte {b = c} from-c to-c Fits.none))) =
      let v : ℕ = three a b c in
      let from : three first.0 second.0 0x80 ≤ v = omega arith in
      let to : v ≤ three first.1 second.1 0xBF = omega arith in
      let a-is : 0xE0 + v / 4096 ≡ a = omega arith in
      let b-is : 0x80 + v / 64 % 64 ≡ b = omega arith in
      let c-is : 0x80 + v % 64 ≡ c = omega arith in
      record { value = v; scalar = scalars v from to; is = sym (encode_three v (omega arith) (omega arith) ∙ rw (a-is, b-is, c-is)) }

  four_row : 0xF0 ≤ first.0 → first.1 ≤ 0xF7 → 0x1_0000 ≤ four first.0 second.0 0x80 0x80
      → AllScalar (four first.0 second.0 0x80 0x80) (four first.1 second.1 0xBF 0xBF)
      → Valued (first ∷ second ∷ utf8_tail ∷ utf8_tail ∷ [])
  four_row from-f0 to-f7 from-10000 scalars s (Fits.byte {b = a} from-a to-a (Fits.byte {b = b} from-b to-b (Fits.byte {b = c} from-c to-c (Fits.byte {b = d} from-d to-d Fits.none)))) =
      let v : ℕ = four a b c d in
      let from : four first.0 second.0 0x80 0x80 ≤ v = omega arith in
      let to : v ≤ four first.1 second.1 0xBF 0xBF = omega arith in
      let a-is : 0xF0 + v / 262144 ≡ a = omega arith in
      let b-is : 0x80 + v / 4096 % 64 ≡ b = omega arith in
      let c-is : 0x80 + v / 64 % 64 ≡ c = omega arith in
      let d-is : 0x80 + v % 64 ≡ d = omega arith in
      record { value = v; scalar = scalars v from to; is = sym (encode_four v (omega arith) ∙ rw (a-is, b-is, c-is, d-is)) }

pub rows_valued : All Valued utf8_char
rows_valued =
    one_row
    and two_row
    and three_row (range 2 0) (range 2 1) (omega arith) (omega arith) (omega arith) (omega arith) (omega arith) (below (omega arith))
    and three_row (range 3 0) (range 3 1) (omega arith) (omega arith) (omega arith) (omega arith) (omega arith) (below (omega arith))
    and three_row (range 4 0) (range 4 1) (omega arith) (omega arith) (omega arith) (omega arith) (omega arith) (below (omega arith))
    and three_row (range 5 0) (range 5 1) (omega arith) (omega arith) (omega arith) (omega arith) (omega arith) (above (omega arith) (omega arith))
    and four_row (range 6 0) (range 6 1) (omega arith) (omega arith) (omega arith) (omega arith) (omega arith) (above (omega arith) (omega arith))
    and four_row (range 7 0) (range 7 1) (omega arith) (omega arith) (omega arith) (omega arith) (omega arith) (above (omega arith) (omega arith))
    and four_row (range 8 0) (range 8 1) (omega arith) (omega arith) (omega arith) (omega arith) (omega arith) (above (omega arith) (omega arith))
    and All.none

-- ---- the row of a value's bytes

pub record Placed (s : List ℕ) : Type 0 where
  pub place : ℕ
  pub inside : place < length utf8_char
  pub fits : Fits (row place) s

placed : {s : List ℕ} (k : ℕ) → k < length utf8_char → Bounds (row k) s → Placed s
placed {s} k inside bounds = record { place = k; inside = inside; fits = bounds_fit (row k) s bounds }

module _ (v : ℕ) where
  last_one : Bounds (utf8_tail ∷ []) ((0x80 + v % 64) ∷ [])
  last_one = (omega arith, omega arith, tt)

  last_two : Bounds (utf8_tail ∷ utf8_tail ∷ []) ((0x80 + v / 64 % 64) ∷ (0x80 + v % 64) ∷ [])
  last_two = (omega arith, omega arith, last_one)

  last_three : Bounds (utf8_tail ∷ utf8_tail ∷ utf8_tail ∷ []) ((0x80 + v / 4096 % 64) ∷ (0x80 + v / 64 % 64) ∷ (0x80 + v % 64) ∷ [])
  last_three = (omega arith, omega arith, last_two)

  three_placed : 0x800 ≤ v → v < 0x1_0000 → Scalar v → Placed (three_bytes v)
  three_placed from end (Scalar.low small) =
      by_below v 0x1000 (λ e0. placed 2 (omega arith) (omega arith, omega arith, (omega arith, omega arith, last_one)))
      (λ above-e0. by_below v 0xD000 (λ e1-ec. placed 3 (omega arith) (omega arith, omega arith, last_two))
      (λ ed. placed 4 (omega arith) (omega arith, omega arith, (omega arith, omega arith, last_one))))
  three_placed from end (Scalar.high large to) = placed 5 (omega arith) (omega arith, omega arith, last_two)

  four_placed : 0x1_0000 ≤ v → Scalar v → Placed (four_bytes v)
  four_placed from (Scalar.low small) = absurd (omega arith)
  four_placed from (Scalar.high large to) =
      by_below v 0x4_0000 (λ f0. placed 6 (omega arith) (omega arith, omega arith, (omega arith, omega arith, last_two)))
      (λ above-f0. by_below v 0x10_0000 (λ f1-f3. placed 7 (omega arith) (omega arith, omega arith, last_three))
      (λ f4. placed 8 (omega arith) (omega arith, omega arith, (omega arith, omega arith, last_two))))

  pub value_placed : Scalar v → Placed (encode v)
  value_placed scalar =
      by_below v 0x80 (λ end. rw (encode_one v end) (placed 0 (omega arith) (omega arith, omega arith, tt)))
      (λ from-80. by_below v 0x800 (λ end. rw (encode_two v from-80 end) (placed 1 (omega arith) (omega arith, omega arith, last_one)))
      (λ from-800. by_below v 0x1_0000 (λ end. rw (encode_three v from-800 end) (three_placed from-800 end scalar))
      (λ from-10000. rw (encode_four v from-10000) (four_placed from-10000 scalar))))
