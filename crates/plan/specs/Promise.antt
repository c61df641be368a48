-- What a planned write keeps: it is the cut theorem's correct write, the store survives where it is cut, and a write that is finished
-- leaves a sound store (docs/FORMAT.md, "What a correct write is"). Of more pairs than are judged none is planned.
use Rattle.std.specs.Prelude.{◌≡◌, ◌⊎◌, Bool, Option, Some, Result, Ok, Err, true, false, List, [], ◌∷◌, ◌++◌, ℕ, ◌+◌, ◌*◌, ◌^◌, ◌≤◌, ◌<◌, length}
use Rattle.codec.specs.Bytes.{AllBytes}
use Rattle.slot.specs.declared.slot.SlotIndex.{SlotIndex}
use Rattle.slot.specs.declared.slot.SlotInfo.{SlotInfo}
use Rattle.slot.specs.declared.slot.Expect.{Expect}
use Rattle.pair.specs.Pair.{winner_info}
use Rattle.judge.specs.Judge.{most_pairs}
use Rattle.judge.specs.Frames.{frame_width, verdict_width}
use Rattle.judge.specs.declared.verdict.JudgeError.{JudgeError}
use Rattle.cut.specs.Store.{Every, Pair, accepts, slot_at, report, frames, last_record, store_mark, SoundSlot, Sound}
use Rattle.cut.specs.Cut.{Tear, Ascending, Sectors, Write, store, size, old, new, left, with_slot, CutPoint, Possible, CorrectWrite, Accident, SectorAccident, AccidentBy, VolumeIfMarked, Survives}
use Rattle.plan.specs.declared.error.PlanError.{PlanError}
use Rattle.plan.specs.declared.write.Plan.{Plan}
use Rattle.plan.specs.Numbers.{next_number, heal_number}
use Rattle.plan.specs.Plan.{plan_write}
use Rattle.plan.specs.Heal.{plan_heal}
use Rattle.plan.specs.Next.{fields_of, next_write}

-- All five functions refuse frames with this error of the judge, whatever else they are asked, and the buffer is kept.
pub record AllRefuse (s : List ℕ) (error : JudgeError) : Type 0 where
  pub next : (o : ℕ) → next_number s o ≡ Err (PlanError.Frames error)
  pub above_winners : (o : ℕ) → heal_number s o ≡ Err (PlanError.Frames error)
  pub plan : (i : ℕ) → plan_write s i ≡ Err (PlanError.Frames error)
  pub heal : (clean : ℕ) → plan_heal s clean ≡ Err (PlanError.Frames error)
  pub encoded : (i : ℕ) (a b : Expect) (owner compat : ℕ) (payload out : List ℕ)
      → next_write s i a b owner compat payload out ≡ (out, Err (PlanError.Frames error))

-- Of more bytes than the most pairs have nothing is numbered, planned or encoded.
abbrev pub MoreRefused : Type 0
MoreRefused = (s : List ℕ) → most_pairs * frame_width < length s → AllRefuse s JudgeError.TooManyPairs

-- A pair whose slots are typed, and read as numbered in format 2.
abbrev pub NumberedPair : Pair → Type 0
NumberedPair p = (index : SlotIndex) → SoundSlot (slot_at index p)

-- The planned write to a pair, with others before and behind it, and what of it reached the slot before the cut.
abbrev pub write_of : List Pair → Pair → List Pair → Plan → ℕ → ℕ → List ℕ → List ℕ → Tear → Write
write_of before p behind plan owner compat payload buffer tear =
    record {
      before = before;
      pair = p;
      behind = behind;
      index = plan.index;
      fields = fields_of plan (slot_at plan.index p).expect owner compat;
      payload = payload;
      buffer = buffer;
      tear = tear;
    }

-- What is given with a plan: fields within their types, an acceptable payload that fits and a buffer of the slot's size.
pub record IsGiven (w : Write) : Type 0 where
  pub owner : w.fields.owner_generation < 2 ^ 64
  pub compat : w.fields.compat_flags < 2 ^ 32
  pub bytes : AllBytes w.payload
  pub accepted : accepts w.pair.decoder w.payload ≡ true
  pub fits : 128 + length w.payload ≤ 2 ^ (slot_at w.index w.pair).expect.log2_slot_size
  pub room : length w.buffer ≡ 2 ^ (slot_at w.index w.pair).expect.log2_slot_size

-- Over any store of such pairs, in any state: where the pair has a winner, a planned write with these is correct.
abbrev pub PlannedIsCorrect : Type 0
PlannedIsCorrect =
    (before : List Pair) (p : Pair) (behind : List Pair) (won : SlotIndex × SlotInfo) (plan : Plan) (owner compat : ℕ) (payload buffer : List ℕ) (tear : Tear)
    → Every NumberedPair (before ++ p ∷ behind)
    → winner_info (report p) ≡ Some won
    → plan_write (frames (before ++ p ∷ behind)) (length before) ≡ Ok (Some plan)
    → IsGiven (write_of before p behind plan owner compat payload buffer tear)
    → CorrectWrite (write_of before p behind plan owner compat payload buffer tear)

-- What is answered where a next write is asked for: the plan and the header's checksum, or nothing, or a refusal.
abbrev pub Answer : Type 0
Answer = Result (Option (Plan × ℕ)) PlanError

-- The frames are of a sound store, whose pair i is p, pair 0 where the clean mark is set, and is read with a and b; a plan was answered for it,
-- and its decoder accepts the payload.
pub record PlannedFor (given : List ℕ) (i : ℕ) (a b : Expect) (payload : List ℕ) (answer : Answer) (before : List Pair) (p : Pair) (behind : List Pair) (plan : Plan) : Type 0 where
  pub crc : ℕ
  pub sound : Sound (before ++ p ∷ behind)
  pub volume_if_marked : VolumeIfMarked before p behind
  pub frames_are : given ≡ frames (before ++ p ∷ behind)
  pub place : i ≡ length before
  pub read_a : p.a.expect ≡ a
  pub read_b : p.b.expect ≡ b
  pub planned : answer ≡ Ok (Some (plan, crc))
  pub accepted : accepts p.decoder payload ≡ true

-- ---- what is asked, and no more

-- Of what is given with a plan,
abbrev pub AnyGiven : Type 0
AnyGiven =
    (w : Write) → w.fields.owner_generation < 2 ^ 64 → w.fields.compat_flags < 2 ^ 32 → AllBytes w.payload → accepts w.pair.decoder w.payload ≡ true
    → 128 + length w.payload ≤ 2 ^ (slot_at w.index w.pair).expect.log2_slot_size
    → length w.buffer ≡ 2 ^ (slot_at w.index w.pair).expect.log2_slot_size → IsGiven w

-- and of the store: where its mark is not set the pair is any, and pair 0 whatever the mark.
abbrev pub AnyPlannedFor : Type 0
AnyPlannedFor =
    (given : List ℕ) (i : ℕ) (a b : Expect) (payload : List ℕ) (answer : Answer) (before : List Pair) (p : Pair) (behind : List Pair) (plan : Plan) (crc : ℕ)
    → Sound (before ++ p ∷ behind) → (store_mark (before ++ p ∷ behind) ≡ false) ⊎ (before ≡ []) → given ≡ frames (before ++ p ∷ behind)
    → i ≡ length before → p.a.expect ≡ a → p.b.expect ≡ b → answer ≡ Ok (Some (plan, crc)) → accepts p.decoder payload ≡ true
    → PlannedFor given i a b payload answer before p behind plan

-- ---- the cuts

-- Where the write of the bytes to the planned slot is then cut without an accident, in ascending order or by sectors, the store survives.
abbrev pub SurvivesCuts : List ℕ → ℕ → Expect → Expect → ℕ → ℕ → List ℕ → List ℕ → List ℕ → Answer → Type 0
SurvivesCuts given i a b owner compat payload buffer written answer =
    (before : List Pair) (p : Pair) (behind : List Pair) (plan : Plan) (tear : Tear) (verdicts : List ℕ)
    → PlannedFor given i a b payload answer before p behind plan
    → Possible tear (size (write_of before p behind plan owner compat payload buffer tear))
    → (AccidentBy tear (left (write_of before p behind plan owner compat payload buffer tear)) (slot_at plan.index p).bytes written payload → ⊥)
    → length verdicts ≡ length (before ++ p ∷ behind) * verdict_width
    → (new (write_of before p behind plan owner compat payload buffer tear) ≡ written)
    × Survives (write_of before p behind plan owner compat payload buffer tear) verdicts

-- What that says of each kind of cut, where the bytes were written.
pub record SurvivesBoth (w : Tear → Write) (written : List ℕ) (verdicts : List ℕ) : Type 0 where
  -- After no byte, or after 8 or more.
  pub ascending : (k : ℕ) → CutPoint k (size (w (Ascending k)))
      → (Accident (left (w (Ascending k))) (old (w (Ascending k))) written (w (Ascending k)).payload → ⊥)
      → Survives (w (Ascending k)) verdicts
  -- With any of the sectors.
  pub sectors : (reached : ℕ → Bool)
      → (SectorAccident (left (w (Sectors reached))) (old (w (Sectors reached))) written (w (Sectors reached)).payload → ⊥)
      → Survives (w (Sectors reached)) verdicts

abbrev pub BothKindsSurvived : Type 0
BothKindsSurvived =
    (given : List ℕ) (i : ℕ) (a b : Expect) (owner compat : ℕ) (payload buffer written : List ℕ) (answer : Answer)
    (before : List Pair) (p : Pair) (behind : List Pair) (plan : Plan) (verdicts : List ℕ)
    → SurvivesCuts given i a b owner compat payload buffer written answer
    → PlannedFor given i a b payload answer before p behind plan
    → length verdicts ≡ length (before ++ p ∷ behind) * verdict_width
    → SurvivesBoth (write_of before p behind plan owner compat payload buffer) written verdicts

-- The same over all that it asks for, written out: `next_write` over the frames of a sound store answered a plan for the pair, whose slots it was
-- told to read as they are read; the mark is not set, or the pair is pair 0; fields within their types, and an acceptable payload.
pub record NextWriteSurvived : Type 0 where
  -- The cut is after no byte, or after 8 or more of the slot's.
  pub ascending : (before : List Pair) (p : Pair) (behind : List Pair) (owner compat : ℕ) (payload buffer written : List ℕ) (plan : Plan) (crc k : ℕ) (verdicts : List ℕ)
      → Sound (before ++ p ∷ behind) → (store_mark (before ++ p ∷ behind) ≡ false) ⊎ (before ≡ [])
      → owner < 2 ^ 64 → compat < 2 ^ 32 → AllBytes payload → accepts p.decoder payload ≡ true
      → next_write (frames (before ++ p ∷ behind)) (length before) p.a.expect p.b.expect owner compat payload buffer ≡ (written, Ok (Some (plan, crc)))
      → (k ≡ 0) ⊎ ((8 ≤ k) × (k ≤ 2 ^ (slot_at plan.index p).expect.log2_slot_size))
      → (Accident (left (write_of before p behind plan owner compat payload buffer (Ascending k))) (slot_at plan.index p).bytes written payload → ⊥)
      → length verdicts ≡ length (before ++ p ∷ behind) * 4
      → Survives (write_of before p behind plan owner compat payload buffer (Ascending k)) verdicts
  -- It is with any of the sectors.
  pub sectors : (before : List Pair) (p : Pair) (behind : List Pair) (owner compat : ℕ) (payload buffer written : List ℕ) (plan : Plan) (crc : ℕ) (reached : ℕ → Bool) (verdicts : List ℕ)
      → Sound (before ++ p ∷ behind) → (store_mark (before ++ p ∷ behind) ≡ false) ⊎ (before ≡ [])
      → owner < 2 ^ 64 → compat < 2 ^ 32 → AllBytes payload → accepts p.decoder payload ≡ true
      → next_write (frames (before ++ p ∷ behind)) (length before) p.a.expect p.b.expect owner compat payload buffer ≡ (written, Ok (Some (plan, crc)))
      → (SectorAccident (left (write_of before p behind plan owner compat payload buffer (Sectors reached))) (slot_at plan.index p).bytes written payload → ⊥)
      → length verdicts ≡ length (before ++ p ∷ behind) * 4
      → Survives (write_of before p behind plan owner compat payload buffer (Sectors reached)) verdicts

-- The store after a write that was not cut.
abbrev pub finished_pair : Write → Pair
finished_pair w = with_slot w.index (new w) w.pair

abbrev pub finished : Write → List Pair
finished w = w.before ++ finished_pair w ∷ w.behind

-- It is sound again, and the pair's last record is the new one. So writes can follow each other.
abbrev pub FinishedIsSound : Type 0
FinishedIsSound =
    (w : Write) → Sound (store w) → CorrectWrite w → Sound (finished w) × (last_record (finished_pair w) ≡ w.payload)
