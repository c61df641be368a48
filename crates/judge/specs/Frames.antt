-- The judge over frames in bytes (docs/FORMAT.md, "Frames", "The store verdict" and "Refusals"). A pair's frame: the part of slot A, that
-- of slot B, and the pair's operator.
use Rattle.std.specs.Prelude.{Bool, ◌&&◌, List, [], ◌∷◌, ℕ, ◌+◌, ◌*◌, ◌/◌, ◌%◌, ◌==◌, nat_le, nat_lt, length, get_or, map, flat_map, Option, Result}
use Rattle.std.specs.Simd.{first_chunks}
use Rattle.slot.specs.declared.slot.SlotIndex.{SlotIndex}
use Rattle.judge.specs.declared.pairs.Pair.{Pair}
use Rattle.judge.specs.declared.numbers.Maxima.{Maxima}
use Rattle.judge.specs.declared.verdict.PairVerdict.{PairVerdict}
use Rattle.judge.specs.declared.verdict.Judgement.{Judgement}
use Rattle.judge.specs.declared.verdict.JudgeError.{JudgeError}
use Rattle.judge.specs.Part.{part_width, part_at, part_shown, is_in_range}
use Rattle.slot.specs.Numbers.{choice_number}
use Rattle.judge.specs.Values.{standing_number, slot_verdict_number, standing_from, choice_from, slot_verdict_from}
use Rattle.judge.specs.Maxima.{two_highest}
use Rattle.judge.specs.Judge.{verdicts, judgement, most_pairs, error, row_in_range, unless, left}

-- ---- a pair's frame

abbrev pub operator_place : ℕ
operator_place = 2 * part_width

abbrev pub frame_width : ℕ
frame_width = operator_place + 1

abbrev pub operator_in : List ℕ → ℕ
operator_in s = get_or s operator_place 0

abbrev pub pair_from : List ℕ → Pair
pair_from s = record { a = part_shown (part_at s 0); b = part_shown (part_at s part_width); operator = operator_in s }

-- Status and facts of both slots are in range; the operator is not looked at.
abbrev pub parts_in_range : List ℕ → Bool
parts_in_range s = is_in_range (part_at s 0) && is_in_range (part_at s part_width)

-- How many pairs the frames hold, the frames one by one, and the pairs that they stand for.
abbrev pub pair_count : List ℕ → ℕ
pair_count s = length s / frame_width

abbrev pub frames : List ℕ → List (List ℕ)
frames s = first_chunks frame_width (pair_count s) s

abbrev pub row : List ℕ → List Pair
row s = map pair_from (frames s)

-- Their values are in range.
abbrev pub frames_in_range : List ℕ → Bool
frames_in_range s = row_in_range parts_in_range pair_from (frames s)

-- ---- a pair's verdict

abbrev pub verdict_width : ℕ
verdict_width = 4

abbrev pub verdict_bytes : PairVerdict → List ℕ
verdict_bytes v = standing_number v.standing ∷ choice_number v.winner ∷ slot_verdict_number v.a ∷ slot_verdict_number v.b ∷ []

abbrev pub verdict_from : List ℕ → PairVerdict
verdict_from s =
    record {
      standing = standing_from (get_or s 0 0);
      winner = choice_from (get_or s 1 0);
      a = slot_verdict_from (get_or s 2 0);
      b = slot_verdict_from (get_or s 3 0);
    }

-- The bytes of each verdict; a rest of fewer is left out.
abbrev pub verdict_cells : List ℕ → List (List ℕ)
verdict_cells (x ∷ y ∷ z ∷ w ∷ s) = (x ∷ y ∷ z ∷ w ∷ []) ∷ verdict_cells s
verdict_cells _ = []

-- The verdicts of a row, one after the other.
abbrev pub row_bytes : List PairVerdict → List ℕ
row_bytes vs = flat_map verdict_bytes vs

-- ---- the judge

-- The error, where so many bytes are lent for the verdicts. Pairs are too many by their bytes, whole or not.
unfoldable pub frames_error : List ℕ → ℕ → ℕ → Option JudgeError
frames_error s clean room =
    error
    (record {
      empty = length s == 0;
      over = nat_lt (most_pairs * frame_width) (length s);
      whole = length s % frame_width == 0;
      fits = room == pair_count s * verdict_width;
      within = nat_le clean 1 && frames_in_range s;
    })

-- What it answers,
unfoldable pub judge_frames : List ℕ → ℕ → ℕ → Result Judgement JudgeError
judge_frames s clean room = unless (frames_error s clean room) (judgement (row s) (clean == 1))

-- and what it leaves in the lent verdicts.
unfoldable pub frames_left : List ℕ → ℕ → List ℕ → List ℕ
frames_left s clean out = left (frames_error s clean (length out)) (row_bytes (verdicts (row s) (clean == 1))) out

-- ---- with no verdict kept

-- The error, where there is room for the verdicts.
abbrev pub refusal : List ℕ → ℕ → Option JudgeError
refusal s clean = frames_error s clean (pair_count s * verdict_width)

-- The two highest numbers of an operator, and the slot that is healed.
abbrev pub frames_maxima : List ℕ → ℕ → ℕ → Result Maxima JudgeError
frames_maxima s clean o = unless (refusal s clean) (two_highest o (row s))

abbrev pub frames_heal : List ℕ → ℕ → Result (Option (ℕ × SlotIndex)) JudgeError
frames_heal s clean = unless (refusal s clean) (judgement (row s) (clean == 1)).heal
