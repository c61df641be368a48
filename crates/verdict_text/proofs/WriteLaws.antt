-- What is written to the start of a buffer leaves the rest of it, and how long the text of a judgement is.
use Rattle.std.proofs.Common.{◌≡◌, refl, sym, ◌∙◌, ap, ap₂, zero, suc, ℕ, ◌+◌, ◌-◌, ◌*◌, ◌/◌, ◌≤◌, ◌<◌, arith, le-leb, List, [], ◌∷◌, ◌++◌, length, take, drop, take-append-drop, drop-drop, length-append, length-drop, length-take-le, take_at, Some, None}
use Rattle.std.specs.List.{flat_map}
use Rattle.std.specs.Simd.{first_chunks}
use borrow.Author.Tests.{lt-leb}
use Rattle.hex.specs.Hex.{lower_digits, encode_lower}
use Rattle.hex.proofs.HexLemmas.{length-encode_with}
use Rattle.judge.specs.declared.verdict.Judgement.{Judgement}
use Rattle.judge.specs.Frames.{verdict_width}
use Rattle.verdict_text.specs.Read.{newline}
use Rattle.verdict_text.specs.Write.{line, verdict_line, last_line, judgement_bytes, judgement_text, over, written, written_over}

module _ (bytes new old : List ℕ) (n : ℕ) (within : n ≤ length new) (front : take n new ≡ bytes) where
  pub end_of : n ≡ length bytes
  end_of = sym (length-take-le n new within) ∙ ap (λ l. length l) front

  pub over_by : drop n new ≡ drop n old → new ≡ over bytes old
  over_by rest = sym (take-append-drop n new) ∙ ap₂ (λ f r. f ++ r) front (rest ∙ ap (λ k. drop k old) end_of)

pub front_over : (bytes new old : List ℕ) (n : ℕ) → n ≡ length bytes → new ≡ over bytes old → take n new ≡ bytes
front_over bytes new old n size after = ap (take n) after ∙ take_at bytes _ n (sym size)

-- What stays after a place stays after a later one.
pub rest_after : (from to : ℕ) (new mid old : List ℕ) → from ≤ to → drop from mid ≡ drop from old → drop to new ≡ drop to mid → drop to new ≡ drop to old
rest_after from to new mid old behind first second =
    let place : from + (to - from) ≡ to = omega arith in
    let later : (xs : List ℕ) → drop to xs ≡ drop (to - from) (drop from xs) = λ xs. ap (λ k. drop k xs) (sym place) ∙ sym (drop-drop (to - from) from xs) in
    second ∙ later mid ∙ ap (drop (to - from)) first ∙ sym (later old)

-- A text is written where there is room for it.
module _ (text buffer : List ℕ) where
  pub fits : length text ≤ length buffer → (written text buffer ≡ Some (length text)) × (written_over text buffer ≡ over text buffer)
  fits room = (rw (le-leb _ _ room) refl, rw (le-leb _ _ room) refl)

  pub no_room : length buffer < length text → (written text buffer ≡ None) × (written_over text buffer ≡ buffer)
  no_room short = (rw (lt-leb _ _ short) refl, rw (lt-leb _ _ short) refl)

-- ---- the length of a text

length_line : (bytes : List ℕ) → length (line bytes) ≡ 2 * length bytes + 1
length_line bytes = omega (arith, length-append (encode_lower bytes) (newline ∷ []), length-encode_with lower_digits bytes)

length_lines : (n : ℕ) (verdicts : List ℕ) → n * verdict_width ≤ length verdicts → length (flat_map line (first_chunks verdict_width n verdicts)) ≡ n * verdict_line
length_lines zero verdicts all = refl
length_lines (suc n) verdicts all =
    let first = take verdict_width verdicts in
    let others = drop verdict_width verdicts in
    omega (arith, length-append (line first) (flat_map line (first_chunks verdict_width n others)), length_line first, length-take-le verdict_width verdicts (omega (arith, all)), length_lines n others (omega (arith, all, length-drop verdict_width verdicts)))

pub judgement_length : (verdicts : List ℕ) (j : Judgement) → length (judgement_text verdicts j) ≡ length verdicts / verdict_width * verdict_line + last_line
judgement_length verdicts j =
    let n = length verdicts / verdict_width in
    omega (arith, length-append (flat_map line (first_chunks verdict_width n verdicts)) (line (judgement_bytes j)), length_lines n verdicts (omega arith), length_line (judgement_bytes j))

-- A buffer that is shorter than so many lines has no room.
pub judgement_no_room : (verdicts : List ℕ) (j : Judgement) (buffer : List ℕ) → length buffer < length verdicts / verdict_width * verdict_line + last_line
    → (written (judgement_text verdicts j) buffer ≡ None) × (written_over (judgement_text verdicts j) buffer ≡ buffer)
judgement_no_room verdicts j buffer short = no_room (judgement_text verdicts j) buffer (omega (arith, short, judgement_length verdicts j))

-- What stands at the start of a buffer and fits in was written to it.
pub placed : (text new old : List ℕ) (n : ℕ) → length new ≡ length old → n ≤ length new → take n new ≡ text → drop n new ≡ drop n old
    → (Some n ≡ written text old) × (new ≡ written_over text old)
placed text new old n same within front rest =
    let size = end_of text new old n within front in
    let room = fits text old (omega (arith, size, same, within)) in
    (ap (λ (k : ℕ). Some k) size ∙ sym room.0, over_by text new old n within front rest ∙ sym room.1)
