-- What owner generations change in a judgement (docs/FORMAT.md, "The store verdict"): no verdict, and of the judgement nothing but whether
-- the winners' differ.
use Rattle.std.specs.Prelude.{◌≡◌, Bool, false, List, [], ◌∷◌, ℕ, zero, suc, length, map, Option, Some, None, Result, Ok, Err}
use Rattle.slot.specs.declared.slot.SlotIndex.{SlotIndex}
use Rattle.judge.specs.declared.pairs.Shown.{Shown}
use Rattle.judge.specs.declared.pairs.Pair.{Pair}
use Rattle.judge.specs.declared.part.SlotPart.{SlotPart}
use Rattle.judge.specs.declared.verdict.PairVerdict.{PairVerdict}
use Rattle.judge.specs.declared.verdict.Judgement.{Judgement}
use Rattle.judge.specs.declared.verdict.JudgeError.{JudgeError}
use Rattle.judge.specs.Part.{part_width, part_at}
use Rattle.judge.specs.Judge.{verdicts, judgement}
use Rattle.judge.specs.Frames.{operator_in, frames, judge_frames, frames_left}

-- ---- rows of pairs

-- A slot with another owner generation, if it has one.
abbrev pub with_owner : ℕ → Shown → Shown
with_owner o (Shown.Valid v) = Shown.Valid (record v { owner_generation = o })
with_owner o s = s

abbrev pub without_owners : Pair → Pair
without_owners p = record p { a = with_owner 0 p.a; b = with_owner 0 p.b }

-- A judgement without whether owners differ.
abbrev pub without_differ : Judgement → Judgement
without_differ j = record j { owners_differ = false }

-- Rows that differ in owner generations alone have the same verdicts, and the same judgement but for whether owners differ.
pub record OwnersAside : Type 0 where
  pub verdicts : (ps qs : List Pair) (clean : Bool) → map without_owners ps ≡ map without_owners qs → verdicts ps clean ≡ verdicts qs clean
  pub judgement : (ps qs : List Pair) (clean : Bool) → map without_owners ps ≡ map without_owners qs
      → without_differ (judgement ps clean) ≡ without_differ (judgement qs clean)

-- One slot of a pair, and of the kth pair, with another owner generation.
abbrev pub with_owner_in : SlotIndex → ℕ → Pair → Pair
with_owner_in SlotIndex.A o p = record p { a = with_owner o p.a }
with_owner_in SlotIndex.B o p = record p { b = with_owner o p.b }

abbrev pub with_owner_at : ℕ → SlotIndex → ℕ → List Pair → List Pair
with_owner_at k index o [] = []
with_owner_at zero index o (p ∷ ps) = with_owner_in index o p ∷ ps
with_owner_at (suc k) index o (p ∷ ps) = p ∷ with_owner_at k index o ps

-- The winner of the kth pair.
abbrev pub winner_at : List PairVerdict → ℕ → Option SlotIndex
winner_at [] k = None
winner_at (v ∷ vs) zero = v.winner
winner_at (v ∷ vs) (suc k) = winner_at vs k

-- The owner generation of a slot that is no winner changes nothing of the judgement, as none does of the verdicts.
abbrev pub LosersUnread : Type 0
LosersUnread =
    (ps : List Pair) (clean : Bool) (k : ℕ) (index : SlotIndex) (o : ℕ) → (winner_at (verdicts ps clean) k ≡ Some index → ⊥)
    → judgement (with_owner_at k index o ps) clean ≡ judgement ps clean

-- ---- frames

abbrev pub part_without_owner : SlotPart → SlotPart
part_without_owner p = record { code = p.code; facts = p.facts; version = record p.version { owner_generation = 0 } }

-- A frame's parts without their owner generations, and its operator.
abbrev pub parts_without_owners : List ℕ → SlotPart × SlotPart × ℕ
parts_without_owners s = (part_without_owner (part_at s 0), part_without_owner (part_at s part_width), operator_in s)

abbrev pub answer_without_differ : Result Judgement JudgeError → Result Judgement JudgeError
answer_without_differ (Ok j) = Ok (without_differ j)
answer_without_differ (Err e) = Err e

-- Frames that differ in owner generations alone are judged alike in the same way; in a part of a frame behind the whole ones they may hold
-- anything.
pub record FramesAside : Type 0 where
  pub answer : (s t : List ℕ) (clean room : ℕ) → length s ≡ length t → map parts_without_owners (frames s) ≡ map parts_without_owners (frames t)
      → answer_without_differ (judge_frames s clean room) ≡ answer_without_differ (judge_frames t clean room)
  pub verdicts : (s t : List ℕ) (clean : ℕ) (out : List ℕ) → length s ≡ length t
      → map parts_without_owners (frames s) ≡ map parts_without_owners (frames t) → frames_left s clean out ≡ frames_left t clean out
