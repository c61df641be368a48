-- Laws on the words of the theorem over histories (docs/FORMAT.md, "The life of a store"): what it asks for, what is known, which mark is read,
-- what is no accident and which of them it needs, which slot is named, which number a write has, and that the functions which plan a write plan
-- those of a history. Each is the contract of a function.
use Rattle.std.specs.Prelude.{◌≡◌, ◌⊎◌, Bool, true, false, Some, None, Ok, List, [], ◌∷◌, ◌++◌, ℕ, ◌*◌, ◌^◌, ◌≤◌, length, take, map, slice_get}
use Rattle.std.specs.List.{IsAmong}
use Rattle.codec.specs.Bytes.{le32}
use Rattle.codec.specs.Crc32c.{crc32c}
use Rattle.slot.specs.Write.{header_crc}
use Rattle.slot.specs.declared.slot.SlotIndex.{SlotIndex}
use Rattle.slot.specs.declared.slot.SlotInfo.{SlotInfo}
use Rattle.judge.specs.Numbers.{numbers, place, highest, highest_other}
use Rattle.judge.specs.Operators.{operators_in_range}
use Rattle.judge.specs.Judge.{most_pairs, judgement}
use Rattle.judge.specs.Frames.{verdict_width}
use Rattle.judge.specs.declared.verdict.PairVerdict.{PairVerdict}
use Rattle.judge.specs.Same.{mark}
use Rattle.cut.specs.Store.{Every, Pair, clean_mark, shown, last_record, store_mark, frames, Sound}
use Rattle.cut.specs.Cut.{Tear, Ascending, Sectors, Write, store, size, old, new, left, Possible, CorrectWith, CorrectWrite, header_passes, is_empty, PayloadIs}
use Rattle.plan.specs.declared.write.Plan.{Plan}
use Rattle.plan.specs.Numbers.{after, of_operator, highest_winner, next_number, heal_number}
use Rattle.plan.specs.Plan.{plan_write}
use Rattle.plan.specs.Heal.{plan_heal}
use Rattle.plan.specs.Promise.{NumberedPair, write_of, IsGiven}
use Rattle.history.specs.History.{Past, Tracked, past, pairs, standing, started, read_mark, named, heal_number as healing_number, Allowed, HistoryAccident, HarmfulAccident, Put, write_to, finished, torn_by, Reached, ReadKnown, Promised}

-- ---- what a history asks for

-- Any sound store of up to 112 pairs may be its beginning, whatever its mark.
abbrev pub AnyStoreBegins : Type 0
AnyStoreBegins = (ps : List Pair) → Sound ps → length ps ≤ 112 → Reached HistoryAccident (map started ps)

-- Where no slot is named and the mark that is read is not set, any correct write may follow;
abbrev pub AnyWriteAllowed : Type 0
AnyWriteAllowed = (w : Write) → named (store w) ≡ None → read_mark (store w) ≡ false → CorrectWrite w → Allowed w

-- where none is named, any correct write of pair 0, whatever mark is read and whatever mark it has;
abbrev pub AnyVolumeWriteAllowed : Type 0
AnyVolumeWriteAllowed = (w : Write) → named (store w) ≡ None → w.before ≡ [] → CorrectWrite w → Allowed w

-- and where a slot is named, any write to it that is correct but for its number, one above its operator's winners.
abbrev pub AnyHealAllowed : Type 0
AnyHealAllowed = (w : Write) → named (store w) ≡ Some (length w.before, w.index) → CorrectWith (healing_number (store w) w.pair) w → Allowed w

-- Each may be finished, or cut: after no byte, after 8 or more, or with any of its sectors.
pub record GoesOn (before : List Tracked) (t : Tracked) (behind : List Tracked) (q : Put) (allowed : Allowed (write_to before t behind q)) : Type 0 where
  pub finished_write : Reached HistoryAccident (before ++ finished (write_to before t behind q) t ∷ behind)
  pub torn_write : (HistoryAccident (write_to before t behind q) (past q.index t) allowed.correct.winner → ⊥)
      → (k : ℕ) → q.tear ≡ Ascending k → (k ≡ 0) ⊎ ((8 ≤ k) × (k ≤ size (write_to before t behind q)))
      → Reached HistoryAccident (before ++ torn_by (write_to before t behind q) t ∷ behind)
  pub torn_sectors : (HistoryAccident (write_to before t behind q) (past q.index t) allowed.correct.winner → ⊥)
      → (reached : ℕ → Bool) → q.tear ≡ Sectors reached
      → Reached HistoryAccident (before ++ torn_by (write_to before t behind q) t ∷ behind)

abbrev pub AnyCutGoesOn : Type 0
AnyCutGoesOn =
    (before : List Tracked) (t : Tracked) (behind : List Tracked) (q : Put) → Reached HistoryAccident (before ++ t ∷ behind)
    → (allowed : Allowed (write_to before t behind q))
    → GoesOn before t behind q allowed

-- Then everything is promised: at the start, and after any write, finished or cut in either way.
pub record EachStepPromised : Type 0 where
  pub start : (ps : List Pair) → Sound ps → length ps ≤ 112 → (out : List ℕ) → length out ≡ length ps * 4
      → Promised (store_mark ps) (map started ps) out
  pub finish : (before : List Tracked) (t : Tracked) (behind : List Tracked) (q : Put) → Reached HistoryAccident (before ++ t ∷ behind)
      → Allowed (write_to before t behind q)
      → (out : List ℕ) → length out ≡ length (before ++ t ∷ behind) * 4
      → Promised (read_mark (pairs (before ++ finished (write_to before t behind q) t ∷ behind))) (before ++ finished (write_to before t behind q) t ∷ behind) out
  pub cut : (before : List Tracked) (t : Tracked) (behind : List Tracked) (q : Put) → Reached HistoryAccident (before ++ t ∷ behind)
      → (allowed : Allowed (write_to before t behind q))
      → (HistoryAccident (write_to before t behind q) (past q.index t) allowed.correct.winner → ⊥)
      → (k : ℕ) → q.tear ≡ Ascending k → (k ≡ 0) ⊎ ((8 ≤ k) × (k ≤ 2 ^ q.fields.log2_slot_size))
      → (out : List ℕ) → length out ≡ length (before ++ t ∷ behind) * 4
      → Promised (read_mark (pairs (before ++ torn_by (write_to before t behind q) t ∷ behind))) (before ++ torn_by (write_to before t behind q) t ∷ behind) out
  pub cut_by_sectors : (before : List Tracked) (t : Tracked) (behind : List Tracked) (q : Put) → Reached HistoryAccident (before ++ t ∷ behind)
      → (allowed : Allowed (write_to before t behind q))
      → (HistoryAccident (write_to before t behind q) (past q.index t) allowed.correct.winner → ⊥)
      → (reached : ℕ → Bool) → q.tear ≡ Sectors reached
      → (out : List ℕ) → length out ≡ length (before ++ t ∷ behind) * 4
      → Promised (read_mark (pairs (before ++ torn_by (write_to before t behind q) t ∷ behind))) (before ++ torn_by (write_to before t behind q) t ∷ behind) out

-- ---- what is known

-- At the start a pair's last written record is known, after a finished write its record alone, after a cut one its record and those of
-- before.
pub record KnownRecords : Type 0 where
  pub start : (p : Pair) → (started p).known ≡ last_record p ∷ []
  pub finish : (w : Write) (t : Tracked) → (finished w t).known ≡ w.payload ∷ []
  pub cut : (w : Write) (t : Tracked) → (torn_by w t).known ≡ w.payload ∷ t.known

-- Whatever is read back of a pair of which a known record is read is known.
abbrev pub ReadIsKnown : Type 0
ReadIsKnown = (t : Tracked) (v : PairVerdict) (r : List ℕ) → ReadKnown t v → PayloadIs t.pair r → IsAmong t.known r

-- ---- the mark

-- The write does not set the mark: it is of a page, or its record has none.
abbrev pub SetsNoMark : Write → Type 0
SetsNoMark w = is_empty w.before ≡ true → clean_mark w.payload ≡ false

-- A history without the mark: it begins with a store whose clean mark is false, and no write sets it.
pub data Unmarked {Accident : Write → Past → SlotInfo → Type 0} : (ts : List Tracked) → Reached Accident ts → Type 0 where
  start : {ps : List Pair} {sound : Sound ps} {few : length ps ≤ most_pairs} → store_mark ps ≡ false → Unmarked (map started ps) (Reached.start sound few)
  finish : {before : List Tracked} {t : Tracked} {behind : List Tracked} {reached : Reached Accident (before ++ t ∷ behind)} {q : Put}
      {allowed : Allowed (write_to before t behind q)}
      → Unmarked (before ++ t ∷ behind) reached → SetsNoMark (write_to before t behind q)
      → Unmarked (before ++ finished (write_to before t behind q) t ∷ behind) (Reached.finish before t behind reached q allowed)
  cut : {before : List Tracked} {t : Tracked} {behind : List Tracked} {reached : Reached Accident (before ++ t ∷ behind)} {q : Put}
      {allowed : Allowed (write_to before t behind q)} {possible : Possible q.tear (size (write_to before t behind q))}
      {none : Accident (write_to before t behind q) (past q.index t) allowed.correct.winner → ⊥}
      → Unmarked (before ++ t ∷ behind) reached → SetsNoMark (write_to before t behind q)
      → Unmarked (before ++ torn_by (write_to before t behind q) t ∷ behind) (Reached.cut before t behind reached q allowed possible none)

-- What is promised of it: the mark that is read is false, so the slot by which the next write goes is the one that the judge names, handed
-- false, and everything is promised under that mark.
pub record WithoutMark (ts : List Tracked) (out : List ℕ) : Type 0 where
  pub read : read_mark (pairs ts) ≡ false
  pub turn : named (pairs ts) ≡ (judgement (shown (pairs ts)) false).heal
  pub promised : Promised false ts out

abbrev pub TheoremWithoutMark : Type 0
TheoremWithoutMark =
    (ts : List Tracked) (reached : Reached HistoryAccident ts) → Unmarked ts reached → (out : List ℕ) → length out ≡ length ts * verdict_width
    → WithoutMark ts out

-- Any store without the mark begins it,
abbrev pub UnmarkedBegins : Type 0
UnmarkedBegins =
    (ps : List Pair) (sound : Sound ps) (few : length ps ≤ 112) → store_mark ps ≡ false
    → Unmarked {Accident = HistoryAccident} (map started ps) (Reached.start sound few)

-- and any write goes on with it that sets none, finished
abbrev pub UnmarkedFinish : Type 0
UnmarkedFinish =
    (before : List Tracked) (t : Tracked) (behind : List Tracked) (reached : Reached HistoryAccident (before ++ t ∷ behind)) (q : Put)
    (allowed : Allowed (write_to before t behind q))
    → Unmarked (before ++ t ∷ behind) reached → (is_empty (pairs before) ≡ true → clean_mark q.payload ≡ false)
    → Unmarked (before ++ finished (write_to before t behind q) t ∷ behind) (Reached.finish before t behind reached q allowed)

-- or cut.
abbrev pub UnmarkedCut : Type 0
UnmarkedCut =
    (before : List Tracked) (t : Tracked) (behind : List Tracked) (reached : Reached HistoryAccident (before ++ t ∷ behind)) (q : Put)
    (allowed : Allowed (write_to before t behind q)) (possible : Possible q.tear (size (write_to before t behind q)))
    (none : HistoryAccident (write_to before t behind q) (past q.index t) allowed.correct.winner → ⊥)
    → Unmarked (before ++ t ∷ behind) reached → (is_empty (pairs before) ≡ true → clean_mark q.payload ≡ false)
    → Unmarked (before ++ torn_by (write_to before t behind q) t ∷ behind) (Reached.cut before t behind reached q allowed possible none)

-- The mark that is read is that of pair 0's last written record at the start.
abbrev pub StartMark : Type 0
StartMark = (ps : List Pair) → Sound ps → read_mark (pairs (map started ps)) ≡ store_mark ps

-- After a write of pair 0 that is finished, the mark that is read is its record's, and the judge answers it as clean: closed or opened.
pub record MarkWritten (t : Tracked) (behind : List Tracked) (q : Put) : Type 0 where
  pub read : read_mark (pairs (finished (write_to [] t behind q) t ∷ behind)) ≡ clean_mark q.payload
  pub answered : (judgement (shown (pairs (finished (write_to [] t behind q) t ∷ behind))) (clean_mark q.payload)).clean ≡ clean_mark q.payload

abbrev pub FinishedMark : Type 0
FinishedMark =
    (t : Tracked) (behind : List Tracked) (q : Put) → Reached HarmfulAccident (t ∷ behind) → Allowed (write_to [] t behind q) → MarkWritten t behind q

-- ---- the accidents

-- The header that was left fails; or it is the one before, over what that was written with; or the new one, over the new payload.
pub data AsWritten (w : Write) (before : Past) : Type 0 where
  fails : header_passes (left w) ≡ false → AsWritten w before
  kept : (take 128 (left w) ≡ take 128 (new w) → ⊥) → take 128 (left w) ≡ take 128 (old w) → standing (left w) ≡ before.under
      → AsWritten w before
  whole : take 128 (left w) ≡ take 128 (new w) → standing (left w) ≡ w.payload → AsWritten w before

-- Then there is no accident but that of the winner's previous checksum.
abbrev pub LinkAtMost : Type 0
LinkAtMost =
    (w : Write) (before : Past) (winner : SlotInfo) → AsWritten w before → HistoryAccident w before winner
    → header_crc w.fields w.payload ≡ winner.prev_header_crc32c

-- To be left as it was written no more is asked.
pub record AnyAsWritten : Type 0 where
  pub fails : (w : Write) (before : Past) → header_passes (left w) ≡ false → AsWritten w before
  pub kept : (w : Write) (before : Past) → (take 128 (left w) ≡ take 128 (new w) → ⊥) → take 128 (left w) ≡ take 128 (old w)
      → standing (left w) ≡ before.under → AsWritten w before
  pub whole : (w : Write) (before : Past) → take 128 (left w) ≡ take 128 (new w) → standing (left w) ≡ w.payload → AsWritten w before

-- Nor is there one where the header that was left is the one before, the new one or, of those that do harm, the one of the last Valid version,
-- and the checksum of the payload under it is not the one that it stores.
pub record FailedPayload : Type 0 where
  pub stated : (w : Write) (before : Past) (winner : SlotInfo)
      → (take 128 (left w) ≡ take 128 (old w)) ⊎ (take 128 (left w) ≡ take 128 (new w))
      → (crc32c (standing (left w)) ≡ le32 (left w) 28 → ⊥)
      → HistoryAccident w before winner → header_crc w.fields w.payload ≡ winner.prev_header_crc32c
  pub harmful : (w : Write) (before : Past) (winner : SlotInfo)
      → (take 128 (left w) ≡ take 128 (old w)) ⊎ ((take 128 (left w) ≡ take 128 (new w)) ⊎ (take 128 (left w) ≡ take 128 before.valid))
      → (crc32c (standing (left w)) ≡ le32 (left w) 28 → ⊥)
      → HarmfulAccident w before winner → ⊥

-- The theorem holds where only those that do harm are ruled out,
abbrev pub HarmfulAlone : Type 0
HarmfulAlone =
    (ts : List Tracked) → Reached HarmfulAccident ts → (out : List ℕ) → length out ≡ length ts * verdict_width
    → Promised (read_mark (pairs ts)) ts out

-- which are among those of the theorem.
abbrev pub HarmfulIsAccident : Type 0
HarmfulIsAccident = (w : Write) (before : Past) (winner : SlotInfo) → HarmfulAccident w before winner → HistoryAccident w before winner

-- ---- the slot that is named

-- None is named at the start and after a write that is finished, and after one that is cut none but the written one.
pub record OnlyTheWritten : Type 0 where
  pub start : (ps : List Pair) → Sound ps → named (pairs (map started ps)) ≡ None
  pub finish : (before : List Tracked) (t : Tracked) (behind : List Tracked) → Reached HarmfulAccident (before ++ t ∷ behind)
      → (q : Put) → Allowed (write_to before t behind q)
      → named (pairs (before ++ finished (write_to before t behind q) t ∷ behind)) ≡ None
  pub cut : (before : List Tracked) (t : Tracked) (behind : List Tracked) → Reached HarmfulAccident (before ++ t ∷ behind)
      → (q : Put) → (allowed : Allowed (write_to before t behind q)) → Possible q.tear (size (write_to before t behind q))
      → (HarmfulAccident (write_to before t behind q) (past q.index t) allowed.correct.winner → ⊥)
      → (named (pairs (before ++ torn_by (write_to before t behind q) t ∷ behind)) ≡ None)
      ⊎ (named (pairs (before ++ torn_by (write_to before t behind q) t ∷ behind)) ≡ Some (length before, q.index))

-- ---- the numbers

-- Over the frames of typed pairs, no more than are judged, with operators in range and read in numbered format 2, `next_number` and
-- `heal_number` answer the numbers of a history, as far as they are below 2^64.
pub record NumbersAnswered : Type 0 where
  pub next : (ps : List Pair) (o : ℕ) → 1 ≤ length ps → length ps ≤ most_pairs → operators_in_range true (shown ps) ≡ true → Every NumberedPair ps
      → next_number (frames ps) o ≡ of_operator o (after (highest (numbers o (shown ps))))
  pub heal : (ps : List Pair) (o : ℕ) → 1 ≤ length ps → length ps ≤ most_pairs → operators_in_range true (shown ps) ≡ true → Every NumberedPair ps
      → heal_number (frames ps) o ≡ of_operator o (after (highest_winner o (shown ps)))

-- So they do over every store that a history leads to.
pub record NumbersReached : Type 0 where
  pub next : (ts : List Tracked) → Reached HarmfulAccident ts → (o : ℕ)
      → next_number (frames (pairs ts)) o ≡ of_operator o (after (highest (numbers o (shown (pairs ts)))))
  pub heal : (ts : List Tracked) → Reached HarmfulAccident ts → (o : ℕ)
      → heal_number (frames (pairs ts)) o ≡ of_operator o (after (highest_winner o (shown (pairs ts))))

-- In a history an operator's highest number is a winner's; and where a slot of the pair p is named, the highest of its operator's other
-- slots is.
pub record NumbersMeet (ps : List Pair) : Type 0 where
  pub free : named ps ≡ None → (o : ℕ) → highest (numbers o (shown ps)) ≡ highest_winner o (shown ps)
  pub healing : (k : ℕ) (index : SlotIndex) (p : Pair) → named ps ≡ Some (k, index) → slice_get ps k ≡ Some p
      → highest_other (place k index) (numbers p.operator (shown ps)) ≡ highest_winner p.operator (shown ps)

abbrev pub NumbersOfHistory : Type 0
NumbersOfHistory = (ts : List Tracked) → Reached HarmfulAccident ts → NumbersMeet (pairs ts)

-- ---- the plans

-- What a write puts into its slot's header, as far as it is planned.
abbrev pub plan_of : Write → Plan
plan_of w =
    record { index = w.index; generation = w.fields.generation; prev_header_crc32c = w.fields.prev_header_crc32c; meta_seq = w.fields.meta_seq }

-- `plan_write` gives every free write of a history, and `plan_heal` every write that heals.
pub record IsPlanned (w : Write) : Type 0 where
  pub free : named (store w) ≡ None → plan_write (frames (store w)) (length w.before) ≡ Ok (Some (plan_of w))
  pub healing : named (store w) ≡ Some (length w.before, w.index)
      → plan_heal (frames (store w)) (mark (read_mark (store w))) ≡ Ok (Some (length w.before, plan_of w))

abbrev pub AllowedIsPlanned : Type 0
AllowedIsPlanned =
    (before : List Tracked) (t : Tracked) (behind : List Tracked) (q : Put) → Reached HarmfulAccident (before ++ t ∷ behind)
    → Allowed (write_to before t behind q) → IsPlanned (write_to before t behind q)

-- What is planned is a write of a history, with what a planned write is given; where no slot is named and the mark is set, that of pair 0.
abbrev pub FreePlanIsAllowed : Type 0
FreePlanIsAllowed =
    (before : List Tracked) (t : Tracked) (behind : List Tracked) (plan : Plan) (owner compat : ℕ) (payload buffer : List ℕ) (tear : Tear)
    → Reached HarmfulAccident (before ++ t ∷ behind)
    → IsGiven (write_of (pairs before) t.pair (pairs behind) plan owner compat payload buffer tear)
    → named (pairs (before ++ t ∷ behind)) ≡ None
    → (read_mark (pairs (before ++ t ∷ behind)) ≡ true → is_empty (pairs before) ≡ true)
    → plan_write (frames (pairs (before ++ t ∷ behind))) (length before) ≡ Ok (Some plan)
    → Allowed (write_of (pairs before) t.pair (pairs behind) plan owner compat payload buffer tear)

abbrev pub HealPlanIsAllowed : Type 0
HealPlanIsAllowed =
    (before : List Tracked) (t : Tracked) (behind : List Tracked) (plan : Plan) (owner compat : ℕ) (payload buffer : List ℕ) (tear : Tear)
    → Reached HarmfulAccident (before ++ t ∷ behind)
    → IsGiven (write_of (pairs before) t.pair (pairs behind) plan owner compat payload buffer tear)
    → plan_heal (frames (pairs (before ++ t ∷ behind))) (mark (read_mark (pairs (before ++ t ∷ behind)))) ≡ Ok (Some (length before, plan))
    → Allowed (write_of (pairs before) t.pair (pairs behind) plan owner compat payload buffer tear)
