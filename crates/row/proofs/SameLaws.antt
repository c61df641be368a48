-- A frame in range and its record tell the judge the same, slot by slot, so the judge over the records answers as the judge over the frames.
use Rattle.std.proofs.Common.{◌≡◌, refl, ap, ap₂, true, List, [], ◌∷◌, ℕ, zero, suc, ◌*◌, length, map, arith}
use Rattle.std.specs.List.{list_all}
use Rattle.std.specs.Simd.{first_chunks}
use Rattle.judge.specs.declared.pairs.Pair.{Pair}
use Rattle.judge.specs.declared.part.SlotPart.{SlotPart}
use Rattle.judge.specs.Part.{part_width, part_at, part_shown, is_in_range}
use Rattle.judge.specs.Frames.{frame_width, verdict_width, operator_in, pair_from, parts_in_range, pair_count, frames, judge_frames}
use Rattle.judge.specs.Records.{shown_read, pair_read, judge_records}
use Rattle.judge.specs.Same.{mark}
use Rattle.judge.proofs.FrameLaws.{same_test, whole}
use Rattle.judge.proofs.RowLaws.{flag-back}
use Rattle.row.specs.Records.{slot_of, pair_of, SameShown}
use Rattle.row.specs.Judged.{SameAnswer}

slot_shown : (p : SlotPart) → is_in_range p ≡ true → shown_read (slot_of p) ≡ part_shown p
slot_shown p within = grind (arith, within)

pub same_shown : SameShown
same_shown s within =
    let a : is_in_range (part_at s 0) ≡ true = grind (arith, within) in
    let b : is_in_range (part_at s part_width) ≡ true = grind (arith, within) in
    ap₂ {C = Pair} (λ x y. record { a = x; b = y; operator = operator_in s }) (slot_shown (part_at s 0) a) (slot_shown (part_at s part_width) b)

all_shown : (fs : List (List ℕ)) → list_all parts_in_range fs ≡ true → map pair_read (map pair_of fs) ≡ map pair_from fs
all_shown [] within = refl
all_shown (f ∷ fs) within =
    let first : parts_in_range f ≡ true = grind (arith, within) in
    let rest : list_all parts_in_range fs ≡ true = grind (arith, within) in
    ap₂ (λ (p : Pair) (ps : List Pair). p ∷ ps) (same_shown f first) (all_shown fs rest)

-- The library has none.
length-chunks : (n k : ℕ) (s : List ℕ) → length (map pair_of (first_chunks n k s)) ≡ k
length-chunks n zero s = refl
length-chunks n (suc k) s = ap suc (length-chunks n k _)

pub same_answer : SameAnswer
unfolding judge_records judge_frames
same_answer s clean room frames_are within =
    let rooms = same_test (room * verdict_width) (pair_count s * verdict_width) room (pair_count s) (λ is. omega (arith, is)) (λ is. omega (arith, is)) in
    simp
    (all_shown (frames s) within, length-chunks frame_width (pair_count s) s, whole s (mark clean) (room * verdict_width) frames_are, rooms, within, (flag-back clean).0, (flag-back clean).1)
