-- What program `verdicts` answers to a text (docs/FORMAT.md, "The program verdicts"), what it leaves of the text that a reader has, and
-- what it adds to the bytes that a writer holds. Readers and writers in memory say what they have and hold; of others these facts claim
-- nothing.
use Rattle.std.specs.Prelude.{◌≡◌, ⊤, Bool, false, if◌then◌else◌, ◌||◌, nat_le, nat_lt, List, ℕ, ◌+◌, ◌*◌, ◌<◌, length, take, drop, Option, Some, None, Result, Ok, Err, IfSome}
use Rattle.std.specs.Int.{from_bool}
use Rattle.std.specs.Io.KnownBytes.{Keeps, Appends}
use Rattle.std.specs.declared.io.Error.{Error}
use Rattle.judge.specs.declared.verdict.Judgement.{Judgement}
use Rattle.judge.specs.declared.verdict.JudgeError.{JudgeError}
use Rattle.judge.specs.Judge.{most_pairs, verdicts, judgement}
use Rattle.judge.specs.Frames.{verdict_width, pair_count, row, row_bytes, frames_error}
use Rattle.judge.specs.Values.{error_number}
use Rattle.verdict_text.specs.declared.answer.Refusal.{Refusal}
use Rattle.verdict_text.specs.declared.answer.AnswerError.{AnswerError}
use Rattle.verdict_text.specs.declared.stream.Calls.{Calls}
use Rattle.verdict_text.specs.Calls.{Failed, WriteFailed}
use Rattle.verdict_text.specs.Read.{store_in}
use Rattle.verdict_text.specs.Write.{verdict_line, last_line, refusal_line, judgement_text, over}

-- ---- the answer to a text

-- 11 a longer text, 10 a line that is none, then what the judge refuses.
abbrev pub refusal_number : Refusal → ℕ
refusal_number Refusal.LongText = 11
refusal_number Refusal.BadLine = 10
refusal_number (Refusal.Judge error) = error_number error

-- The bytes of the verdicts on these frames, and the judgement, where the judge refuses nothing.
abbrev pub unless_refused : Option JudgeError → List ℕ → Judgement → Result (List ℕ × Judgement) Refusal
unless_refused None bytes j = Ok (bytes, j)
unless_refused (Some error) bytes j = Err (Refusal.Judge error)

abbrev pub judged_frames : Bool → List ℕ → Result (List ℕ × Judgement) Refusal
judged_frames clean frames =
    unless_refused (frames_error frames (from_bool clean) (pair_count frames * verdict_width)) (row_bytes (verdicts (row frames) clean))
    (judgement (row frames) clean)

abbrev pub judged_store : Option (Bool × List ℕ) → Result (List ℕ × Judgement) Refusal
judged_store None = Err Refusal.BadLine
judged_store (Some store) = judged_frames store.0 store.1

-- Whether a text has more than 65,536 bytes: more are held of it, or others follow those that are held.
abbrev pub is_long : ℕ → Bool → Bool
is_long held more = more || nat_lt 65536 held

unfoldable pub judged : List ℕ → Bool → Result (List ℕ × Judgement) Refusal
judged text more = if is_long (length text) more then Err Refusal.LongText else judged_store (store_in text)

abbrev pub printed : Result (List ℕ × Judgement) Refusal → List ℕ
printed (Ok done) = judgement_text done.0 done.1
printed (Err refusal) = refusal_line (refusal_number refusal)

-- What is printed for the bytes that are held of a text, by whether others follow them, and for a whole text.
abbrev pub response_text : List ℕ → Bool → List ℕ
response_text text more = printed (judged text more)

abbrev pub answer_text : List ℕ → List ℕ
answer_text text = response_text text false

-- The room of the longest answer.
abbrev pub response_room : ℕ
response_room = most_pairs * verdict_line + last_line

-- What is printed is written to the start of a buffer that has this room, and nothing to a shorter one: how many bytes are written, and the
-- buffer after that.
abbrev pub response_length : List ℕ → Bool → List ℕ → Option ℕ
response_length text more buffer = if nat_le response_room (length buffer) then Some (length (response_text text more)) else None

abbrev pub response_over : List ℕ → Bool → List ℕ → List ℕ
response_over text more buffer = if nat_le response_room (length buffer) then over (response_text text more) buffer else buffer

-- ---- reader and writer

-- A reader lost the first n bytes of its text.
abbrev pub Loses : ℕ → Option (List ℕ) → Option (List ℕ) → Type 0
Loses n old new = IfSome old (λ text. new ≡ Some (drop n text))

-- It lost fewer than n.
abbrev pub LosesFewer : ℕ → Option (List ℕ) → Option (List ℕ) → Type 0
LosesFewer n old new = IfSome old (λ text. (k : ℕ) × (k < n) × (new ≡ Some (drop k text)))

-- A writer took a front of the bytes and not all of them.
abbrev pub AppendsFront : Option (List ℕ) → Option (List ℕ) → List ℕ → Type 0
AppendsFront old new bytes = (n : ℕ) × (n < length bytes) × Appends old new (take n bytes)

-- 65,536 bytes and the one that shows a longer text, or the whole of a shorter text. Fewer where a read failed.
abbrev pub Left : {T : Type 0} → Option (List ℕ) → Option (List ℕ) → Result T AnswerError → Type 0
Left old new (Ok done) = Loses 65537 old new
Left old new (Err (AnswerError.Read error)) = LosesFewer 65537 old new
Left old new (Err (AnswerError.Write error)) = Loses 65537 old new

-- The whole answer to the reader's text; nothing where a read failed; a front of the answer where a write failed.
abbrev pub Written : {T : Type 0} → Option (List ℕ) → Option (List ℕ) → Option (List ℕ) → Result T AnswerError → Type 0
Written text old new (Ok done) = IfSome text (λ s. Appends old new (answer_text s))
Written text old new (Err (AnswerError.Read error)) = Keeps old new
Written text old new (Err (AnswerError.Write error)) = IfSome text (λ s. AppendsFront old new (answer_text s))

-- What an error was made of.
abbrev pub cause : AnswerError → Error
cause (AnswerError.Read error) = error
cause (AnswerError.Write error) = error

-- An error is that of the last read or write, by what the reader's and the writer's calls answered.
abbrev pub Reported : {T : Type 0} → Calls → Calls → Result T AnswerError → Type 0
Reported reads writes (Ok done) = ⊤
Reported reads writes (Err (AnswerError.Read error)) = Failed reads error
Reported reads writes (Err (AnswerError.Write error)) = WriteFailed writes error
