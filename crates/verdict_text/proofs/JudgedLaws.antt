-- A text as it is judged: refused by its length or by its lines, or by the judge of its frames.
use Rattle.std.proofs.Common.{◌≡◌, refl, sym, ap, ap₂, ◌∙◌, Bool, true, false, ◌==◌, ℕ, ◌*◌, ◌≤◌, ◌<◌, arith, le-leb, List, length, take, length-take-le, Option, Some, None, Ok, Err}
use Rattle.std.proofs.lemmas.List.{take_all}
use Rattle.std.specs.Int.{from_bool}
use Rattle.judge.specs.declared.verdict.Judgement.{Judgement}
use Rattle.judge.specs.declared.verdict.JudgeError.{JudgeError}
use Rattle.judge.specs.Judge.{most_pairs, verdicts, judgement, unless, left}
use Rattle.judge.specs.Frames.{frame_width, verdict_width, pair_count, row, row_bytes, frames_error, judge_frames, frames_left}
use Rattle.judge.proofs.FrameLaws.{too_many}
use Rattle.verdict_text.specs.declared.answer.Refusal.{Refusal}
use Rattle.verdict_text.specs.Read.{store_in}
use Rattle.verdict_text.specs.Steps.{Holds}
use Rattle.verdict_text.specs.Write.{judgement_text, written, written_over}
use Rattle.verdict_text.specs.Answer.{unless_refused, judged_frames, judged_store, is_long, judged, response_text, response_room, response_length, response_over}
use Rattle.verdict_text.proofs.WriteLaws.{front_over, fits, judgement_length}

module _ (text : List ℕ) (more : Bool) where
  pub long_text : is_long (length text) more ≡ true → judged text more ≡ Err Refusal.LongText
  unfolding judged
  long_text long = rw long

  pub fitting_text : is_long (length text) more ≡ false → judged text more ≡ judged_store (store_in text)
  unfolding judged
  fitting_text fits = rw fits

-- The text of a judgement is written to a buffer that has the room of the longest answer.
module _ (text : List ℕ) (more : Bool) (buffer : List ℕ) (room : response_room ≤ length buffer) where
  pub judgement_fits : (verdicts : List ℕ) (j : Judgement) → judged text more ≡ Ok (verdicts, j) → length verdicts ≤ most_pairs * verdict_width
      → (written (judgement_text verdicts j) buffer ≡ response_length text more buffer) × (written_over (judgement_text verdicts j) buffer ≡ response_over text more buffer)
  judgement_fits verdicts j is few =
      let whole = fits (judgement_text verdicts j) buffer (omega (arith, judgement_length verdicts j, few, room)) in
      (rw (is, le-leb _ _ room) whole.0, rw (is, le-leb _ _ room) whole.1)

-- In a buffer that has this room the answer stands at the start.
pub response_front : (text : List ℕ) (more : Bool) (new buffer : List ℕ) (n : ℕ) → Some n ≡ response_length text more buffer → new ≡ response_over text more buffer
    → response_room ≤ length buffer → take n new ≡ response_text text more
response_front text more new buffer n size after room =
    let same : Some n ≡ Some (length (response_text text more)) = rw (le-leb _ _ room) at size in
    front_over (response_text text more) new buffer n (grind (arith, same)) (rw (le-leb _ _ room) at after)

-- ---- the frames that are held

module _ (buffer : List ℕ) (pairs : ℕ) (frames : List ℕ) (holds : Holds buffer pairs frames) where
  -- All of them, where there is room for so many,
  pub all_held : pairs * frame_width ≤ length buffer → take (pairs * frame_width) buffer ≡ frames
  all_held fits = holds.held ∙ take_all (length buffer) frames (omega (arith, holds.size))

  -- with room for their verdicts.
  pub room_for : (verdicts : List ℕ) → pairs * verdict_width ≤ length verdicts
      → length (take (pairs * verdict_width) verdicts) ≡ pair_count frames * verdict_width
  room_for verdicts room = omega (arith, holds.size, length-take-le (pairs * verdict_width) verdicts room)

  -- The judge refuses more than it judges.
  pub more_refused : (clean : Bool) → most_pairs < pairs → judged_frames clean frames ≡ Err (Refusal.Judge JudgeError.TooManyPairs)
  more_refused clean many =
      rw (too_many frames (from_bool clean) (pair_count frames * verdict_width) (omega (arith, holds.size))) refl

mark-back : (clean : Bool) → (from_bool clean == 1) ≡ clean
mark-back true = refl
mark-back false = refl

module _ (clean : Bool) (frames out : List ℕ) (room : length out ≡ pair_count frames * verdict_width) where
  abbrev error : Option JudgeError
  error = frames_error frames (from_bool clean) (length out)

  abbrev bytes : List ℕ
  bytes = row_bytes (verdicts (row frames) (from_bool clean == 1))

  abbrev all : Judgement
  all = judgement (row frames) (from_bool clean == 1)

  by_error : judged_frames clean frames ≡ unless_refused error bytes all
  by_error = rw (mark-back clean, room) refl

  pub judged-ok : (j : Judgement) (new : List ℕ) → Ok j ≡ judge_frames frames (from_bool clean) (length out) → new ≡ frames_left frames (from_bool clean) out
      → judged_frames clean frames ≡ Ok (new, j)
  unfolding judge_frames frames_left
  judged-ok j new value after = by_error ∙ go error value after
    where
      go : (e : Option JudgeError) → Ok j ≡ unless e all → new ≡ left e bytes out → unless_refused e bytes all ≡ Ok (new, j)
      go None value after =
          let same : all ≡ j = cc in
          ap₂ (λ (b : List ℕ) (k : Judgement). Ok (b, k)) (sym after) same
      go (Some e) value after = cc

  pub judged-error : (e : JudgeError) → Err e ≡ judge_frames frames (from_bool clean) (length out) → judged_frames clean frames ≡ Err (Refusal.Judge e)
  unfolding judge_frames
  judged-error e value = by_error ∙ go error value
    where
      go : (o : Option JudgeError) → Err e ≡ unless o all → unless_refused o bytes all ≡ Err (Refusal.Judge e)
      go None value = cc
      go (Some f) value = let same : f ≡ e = cc in ap (λ (e : JudgeError). Err (Refusal.Judge e)) same
