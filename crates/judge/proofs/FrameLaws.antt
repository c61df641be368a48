-- What the judge over frames answers is the judge's answer over their row, and its verdicts, four bytes each, are those bytes joined.
use Rattle.std.proofs.Common.{◌≡◌, refl, ap, ◌∙◌, Bool, true, false, not, List, [], ◌∷◌, ◌++◌, ℕ, zero, suc, ◌+◌, ◌-◌, ◌*◌, ◌/◌, ◌%◌, ◌<◌, ◌≤◌, ◌&&◌, length, get_or, set, take, drop, map, flat_map, slice_get, arith, eqb, leb, ltb, eqb-true, eq-eqb, ne_eqb, lt-ltb, Some, None}
use Rattle.judge.specs.declared.verdict.PairVerdict.{PairVerdict}
use Rattle.judge.specs.declared.verdict.JudgeError.{JudgeError}
use Rattle.judge.specs.Judge.{most_pairs, error, RowLent, row_error}
use Rattle.judge.specs.Frames.{frame_width, verdict_width, pair_count, frames_in_range, verdict_bytes, verdict_from, verdict_cells, row_bytes, frames_error}

-- Both tests say the same. The library has none of these.
pub same_test : (m n j k : ℕ) → (m ≡ n → j ≡ k) → (j ≡ k → m ≡ n) → eqb m n ≡ eqb j k
same_test m n j k there back = grind (arith, there, back)

same_order : (m n j k : ℕ) → (m < n → j < k) → (j < k → m < n) → ltb m n ≡ ltb j k
same_order m n j k there back = grind (arith, there, back)

-- The whole frames as a row, where `rest` says that a part of one follows.
abbrev pub lent_as : List ℕ → ℕ → ℕ → Bool → RowLent
lent_as s clean room rest =
    record {
      pairs = pair_count s;
      rest = rest;
      fits = eqb room (pair_count s * verdict_width);
      within = leb clean 1 && frames_in_range s;
    }

-- The error is that of the row.
pub by_row : (s : List ℕ) (clean room : ℕ)
    → frames_error s clean room ≡ row_error (lent_as s clean room (not (eqb (length s % frame_width) 0)))
unfolding frames_error
by_row s clean room = go (eqb (length s % frame_width) 0) refl
  where
    go : (whole : Bool) → eqb (length s % frame_width) 0 ≡ whole
        → error
        (record {
          empty = eqb (length s) 0;
          over = ltb (most_pairs * frame_width) (length s);
          whole = whole;
          fits = eqb room (pair_count s * verdict_width);
          within = leb clean 1 && frames_in_range s;
        })
        ≡ row_error (lent_as s clean room (not whole))
    go true is =
        let whole = eqb-true (length s % frame_width) 0 is in
        let over = same_order (most_pairs * frame_width) (length s) most_pairs (pair_count s) (λ is. omega (arith, is)) (λ is. omega (arith, is)) in
        rw (same_test (length s) 0 (pair_count s) 0 (λ is. omega (arith, is)) (λ is. omega (arith, is)), over)
    go false is =
        let some : eqb (length s) 0 ≡ false = grind (arith, is) in
        let part : length s % frame_width ≡ 0 → ⊥ = grind (arith, is) in
        let over = same_order (most_pairs * frame_width) (length s) (most_pairs - 1) (pair_count s) (λ is. omega (arith, is)) (λ is. omega (arith, is, part)) in
        rw (some, over)

pub whole : (s : List ℕ) (clean room : ℕ) → length s % frame_width ≡ 0 → frames_error s clean room ≡ row_error (lent_as s clean room false)
whole s clean room frames_are = by_row s clean room ∙ rw (eq-eqb (length s % frame_width) 0 frames_are)

-- More bytes than the most pairs have are too many, whatever they hold.
pub too_many : (s : List ℕ) (clean room : ℕ) → most_pairs * frame_width < length s → frames_error s clean room ≡ Some JudgeError.TooManyPairs
unfolding frames_error
too_many s clean room more =
    let some : length s ≡ 0 → ⊥ = omega arith in
    simp (ne_eqb (length s) 0 some, lt-ltb (most_pairs * frame_width) (length s) more)

-- Without an error there are no more pairs than are judged.
pub few : (s : List ℕ) (clean room : ℕ) → frames_error s clean room ≡ None → pair_count s ≤ most_pairs
unfolding frames_error
few s clean room none = grind (arith, none)

-- Without an error the lent bytes are whole verdicts.
pub room : (s : List ℕ) (clean len new : ℕ) → len ≡ new → frames_error s clean len ≡ None → new % verdict_width ≡ 0
unfolding frames_error
room s clean len new same none = grind (arith, same, none)

-- ---- the verdicts

-- So many verdicts, as the code asks it.
pub whole_cells : (len n : ℕ) → eqb (len % 4) 0 && eqb (len / 4) n ≡ eqb len (n * 4)
whole_cells len n = grind arith

pub length_cells : (s : List ℕ) → length (verdict_cells s) ≡ length s / 4
length_cells (x ∷ y ∷ z ∷ w ∷ s) = omega (arith, length_cells s)
length_cells _ = refl

next : (i : ℕ) → suc i * 4 ≡ suc (suc (suc (suc (i * 4))))
next i = omega arith

past : (n j : ℕ) → suc (suc (suc (suc n))) + j ≡ suc (suc (suc (suc (n + j))))
past n j = omega arith

pub cells_read : (s : List ℕ) (i : ℕ) → i < length (verdict_cells s) → slice_get (map verdict_from (verdict_cells s)) i ≡ Some (verdict_from (get_or s (i * 4) 0 ∷ get_or s (i * 4 + 1) 0 ∷ get_or s (i * 4 + 2) 0 ∷ get_or s (i * 4 + 3) 0 ∷ []))
cells_read (x ∷ y ∷ z ∷ w ∷ s) zero within = refl
cells_read (x ∷ y ∷ z ∷ w ∷ s) (suc i) within = rw (next i, past (i * 4) 1, past (i * 4) 2, past (i * 4) 3) (cells_read s i (omega arith))
cells_read _ i within = absurd (omega arith)

pub cells_put : (s : List ℕ) (i : ℕ) (v : PairVerdict) → i < length (verdict_cells s)
    → verdict_cells (take (i * 4) s ++ (verdict_bytes v ++ drop 4 (drop (i * 4) s))) ≡ set (verdict_cells s) i (verdict_bytes v)
cells_put (a ∷ b ∷ c ∷ d ∷ s) zero v within = refl
cells_put (a ∷ b ∷ c ∷ d ∷ s) (suc i) v within =
    rw (next i) (ap (λ (rest : List (List ℕ)). (a ∷ b ∷ c ∷ d ∷ []) ∷ rest) (cells_put s i v (omega arith)))
cells_put _ i v within = absurd (omega arith)

-- Where no rest is left, the list is its verdicts' bytes.
joined : (s : List ℕ) → length s % 4 ≡ 0 → s ≡ flat_map (λ (four : List ℕ). four) (verdict_cells s)
joined [] whole = refl
joined (x ∷ y ∷ z ∷ w ∷ s) whole = ap (λ (rest : List ℕ). x ∷ y ∷ z ∷ w ∷ rest) (joined s (omega arith))
joined _ whole = absurd (omega arith)

flat : (vs : List PairVerdict) → flat_map (λ (four : List ℕ). four) (map verdict_bytes vs) ≡ flat_map verdict_bytes vs
flat [] = refl
flat (v ∷ vs) = ap (λ (rest : List ℕ). verdict_bytes v ++ rest) (flat vs)

-- The bytes of so many verdicts.
pub bytes-done : (new : List ℕ) (vs : List PairVerdict) → length new % 4 ≡ 0 → verdict_cells new ≡ map verdict_bytes vs → new ≡ row_bytes vs
bytes-done new vs whole done = joined new whole ∙ ap (flat_map (λ (four : List ℕ). four)) done ∙ flat vs
