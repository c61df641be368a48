-- The frames filled from a row of pairs stand for that row, so that the judge over them judges it: there is an error only for an empty row,
-- another room than the verdicts need, and a mark out of range.
use Rattle.std.proofs.Common.{◌≡◌, refl, sym, ap, ap₂, ◌∙◌, Bool, true, false, ◌&&◌, List, [], ◌∷◌, ◌++◌, ℕ, ◌*◌, arith, eqb, leb, length, map, length-append, take_at, drop_at, Option, Some, None}
use Rattle.std.specs.List.{list_all}
use Rattle.std.specs.Simd.{first_chunks}
use Rattle.codec.proofs.ReadLaws.{Rest, start, onward}
use Rattle.judge.specs.declared.pairs.Pair.{Pair}
use Rattle.judge.specs.declared.part.SlotPart.{SlotPart}
use Rattle.judge.specs.declared.verdict.PairVerdict.{PairVerdict}
use Rattle.judge.specs.declared.verdict.JudgeError.{JudgeError}
use Rattle.judge.specs.declared.records.PairRead.{PairRead}
use Rattle.judge.specs.Part.{part_width, part_bytes, part_at, part_shown, is_in_range}
use Rattle.judge.specs.Operators.{operators_in_range}
use Rattle.judge.specs.Judge.{verdicts, judgement, row_error, unless, left}
use Rattle.judge.specs.Records.{pair_read, records_error, judge_records, records_left}
use Rattle.judge.specs.Frames.{operator_place, frame_width, verdict_width, operator_in, pair_from, parts_in_range, pair_count, frames, row, row_bytes, frames_error, judge_frames, frames_left}
use Rattle.judge.specs.Same.{filled, Framed, part_read, frame_of, frames_of, pairs_of, Fits, AllFit, mark, SameJudge, IgnoredFields}
use Rattle.judge.proofs.PartLaws.{part-shows, part-in-range, filled-fits, length_part, byte-read, part-read}
use Rattle.judge.proofs.RowLaws.{flag-back}
use Rattle.judge.proofs.FrameLaws.{same_test, whole}

-- ---- a pair's frame

module _ (f : Framed) (fits : Fits f) where
  abbrev pub a : SlotPart
  a = filled f.rest_a (part_read f.pair.a)

  abbrev pub b : SlotPart
  b = filled f.rest_b (part_read f.pair.b)

  pub a-read : part_at (frame_of f) 0 ≡ a
  a-read = part-read (frame_of f) (part_bytes b ++ f.pair.operator ∷ []) 0 a (filled-fits _ _ fits.a fits.rest_a) (start _ _ refl)

  after_a : Rest (frame_of f) part_width (part_bytes b ++ f.pair.operator ∷ [])
  after_a = onward part_width (part_bytes a) (part_bytes b ++ f.pair.operator ∷ []) (length_part a) (start _ _ refl)

  pub b-read : part_at (frame_of f) part_width ≡ b
  b-read = part-read (frame_of f) (f.pair.operator ∷ []) part_width b (filled-fits _ _ fits.b fits.rest_b) after_a

  pub operator-read : operator_in (frame_of f) ≡ f.pair.operator
  operator-read =
      byte-read (frame_of f) [] operator_place f.pair.operator (onward part_width (part_bytes b) (f.pair.operator ∷ []) (length_part b) after_a)

  frame-pair : pair_from (frame_of f) ≡ pair_read f.pair
  frame-pair =
      let a_is = ap part_shown a-read ∙ part-shows f.rest_a f.pair.a.status f.pair.a.facts in
      let b_is = ap part_shown b-read ∙ part-shows f.rest_b f.pair.b.status f.pair.b.facts in
      rw (a_is, b_is, operator-read)

  frame-in-range : parts_in_range (frame_of f) ≡ true
  frame-in-range =
      ap₂ (λ x y. x && y) (ap is_in_range a-read ∙ part-in-range f.rest_a f.pair.a.status f.pair.a.facts)
      (ap is_in_range b-read ∙ part-in-range f.rest_b f.pair.b.status f.pair.b.facts)

length-frame : (f : Framed) → length (frame_of f) ≡ frame_width
length-frame f = simp (length-append, length_part)

-- ---- the frames of a row

length-frames : (fs : List Framed) → length (frames_of fs) ≡ length fs * frame_width
length-frames [] = refl
length-frames (f ∷ fs) = simp (length-append, length_part) (omega (arith, length-frames fs))

chunked : (fs : List Framed) → first_chunks frame_width (length fs) (frames_of fs) ≡ map frame_of fs
chunked [] = refl
chunked (f ∷ fs) =
    ap₂ (λ (x : List ℕ) (xs : List (List ℕ)). x ∷ xs) (take_at (frame_of f) (frames_of fs) frame_width (length-frame f))
    (ap (first_chunks frame_width (length fs)) (drop_at (frame_of f) (frames_of fs) frame_width (length-frame f)) ∙ chunked fs)

read_all : (fs : List Framed) → AllFit fs → map pair_from (map frame_of fs) ≡ map pair_read (pairs_of fs)
read_all [] fits = refl
read_all (f ∷ fs) fits = ap₂ (λ (p : Pair) (ps : List Pair). p ∷ ps) (frame-pair f fits.0) (read_all fs fits.1)

all-in-range : (fs : List Framed) → AllFit fs → list_all parts_in_range (map frame_of fs) ≡ true
all-in-range [] fits = refl
all-in-range (f ∷ fs) fits = simp (frame-in-range f fits.0, all-in-range fs fits.1)

length-pairs : (fs : List Framed) → length (pairs_of fs) ≡ length fs
length-pairs [] = refl
length-pairs (f ∷ fs) = simp (length-pairs fs)

-- ---- the judge over them

-- The error of so many pairs.
abbrev pub framed_error : List PairRead → ℕ → ℕ → Option JudgeError
framed_error ps clean room =
    row_error
    (record {
      pairs = length ps;
      rest = false;
      fits = eqb room (length ps * verdict_width);
      within = leb clean 1 && operators_in_range true (map pair_read ps);
    })

pub count-is : (fs : List Framed) → pair_count (frames_of fs) ≡ length fs
count-is fs = omega (arith, length-frames fs)

pub frames-are : (fs : List Framed) → frames (frames_of fs) ≡ map frame_of fs
frames-are fs = ap (λ (n : ℕ). first_chunks frame_width n (frames_of fs)) (count-is fs) ∙ chunked fs

pub row-is : (fs : List Framed) → AllFit fs → row (frames_of fs) ≡ map pair_read (pairs_of fs)
row-is fs fits = ap (map pair_from) (frames-are fs) ∙ read_all fs fits

module _ (fs : List Framed) (fits : AllFit fs) where
  error-is : (clean room : ℕ) → frames_error (frames_of fs) clean room ≡ framed_error (pairs_of fs) clean room
  error-is clean room =
      whole (frames_of fs) clean room (omega (arith, length-frames fs))
      ∙ ap₂
      (λ (n : ℕ) (within : Bool). row_error (record { pairs = n; rest = false; fits = eqb room (n * verdict_width); within = within }))
      (count-is fs ∙ sym (length-pairs fs))
      (ap₂ (λ (parts : Bool) (row : List Pair). leb clean 1 && (parts && operators_in_range true row))
      (ap (list_all parts_in_range) (frames-are fs) ∙ all-in-range fs fits) (row-is fs fits))

  pub answer-is : (clean room : ℕ)
      → judge_frames (frames_of fs) clean room
      ≡ unless (framed_error (pairs_of fs) clean room) (judgement (map pair_read (pairs_of fs)) (eqb clean 1))
  unfolding judge_frames
  answer-is clean room = rw (error-is clean room, row-is fs fits)

  pub verdicts-are : (clean : ℕ) (out : List ℕ)
      → frames_left (frames_of fs) clean out
      ≡ left (framed_error (pairs_of fs) clean (length out)) (row_bytes (verdicts (map pair_read (pairs_of fs)) (eqb clean 1))) out
  unfolding frames_left
  verdicts-are clean out = rw (error-is clean (length out), row-is fs fits)

-- ---- both judges

same-error : (ps : List PairRead) (clean : Bool) (room : ℕ) → framed_error ps (mark clean) (room * verdict_width) ≡ records_error ps room
same-error ps clean room =
    let rooms = same_test (room * verdict_width) (length ps * verdict_width) room (length ps) (λ is. omega (arith, is)) (λ is. omega (arith, is)) in
    simp (rooms, (flag-back clean).0)

length-verdicts : (vs : List PairVerdict) → length (row_bytes vs) ≡ length vs * verdict_width
length-verdicts [] = refl
length-verdicts (v ∷ vs) = simp (length-verdicts vs) (omega arith)

left-bytes : (e : Option JudgeError) (done old : List PairVerdict) → left e (row_bytes done) (row_bytes old) ≡ row_bytes (left e done old)
left-bytes None done old = refl
left-bytes (Some e) done old = refl

pub same_judge : SameJudge
unfolding judge_records records_left
same_judge =
    record {
      answer = λ fs fits clean room. answer-is fs fits (mark clean) (room * verdict_width) ∙ simp (same-error (pairs_of fs) clean room, (flag-back clean).1);
      verdicts = λ fs fits clean out.
          let by_frames =
          simp (length-verdicts out, same-error (pairs_of fs) clean (length out), (flag-back clean).1)
          at (verdicts-are fs fits (mark clean) (row_bytes out)) in
          by_frames ∙ left-bytes (records_error (pairs_of fs) (length out)) (verdicts (map pair_read (pairs_of fs)) clean) out;
    }

pub ignored_fields : IgnoredFields
ignored_fields =
    record {
      answer = λ fs gs fits fits' same clean room.
          answer-is fs fits clean room
          ∙ ap (λ (ps : List PairRead). unless (framed_error ps clean room) (judgement (map pair_read ps) (eqb clean 1))) same
          ∙ sym (answer-is gs fits' clean room);
      verdicts = λ fs gs fits fits' same clean out.
          verdicts-are fs fits clean out
          ∙ ap (λ (ps : List PairRead). left (framed_error ps clean (length out)) (row_bytes (verdicts (map pair_read ps) (eqb clean 1))) out) same
          ∙ sym (verdicts-are gs fits' clean out);
    }
