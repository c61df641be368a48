-- The theorem over histories (docs/FORMAT.md, "The life of a store"): a sound store is taken through any number of writes, each finished
-- or cut, in ascending order or by sectors, and the writes that heal may be cut too. The judge is handed the clean mark of the record that is
-- read from pair 0; writes of pair 0 set it and clear it, and while it is set no other pair is written. Unless an accident happened, after
-- each write every pair is judged Confirmed, the store is writable, and each record read is the last one finished or one begun after it.
--
-- Stores, writes, cuts and what is read back are those of the cut theorem, and the numbers those that `next_number` and `heal_number`
-- answer.
use Rattle.std.specs.Prelude.{◌≡◌, Bool, true, false, nat_eq, if◌then◌else◌, List, [], ◌∷◌, ◌++◌, ℕ, suc, ◌+◌, ◌*◌, ◌≤◌, length, take, map, Option, Some, None}
use Rattle.std.specs.List.{IsAmong}
use lib.Pointwise.{pointwise}
use Rattle.codec.specs.Bytes.{le32}
use Rattle.codec.specs.Crc32c.{crc32c}
use Rattle.slot.specs.Payload.{payload as payload_of}
use Rattle.slot.specs.Read.{validate}
use Rattle.slot.specs.Write.{header_crc}
use Rattle.slot.specs.declared.slot.SlotIndex.{SlotIndex}
use Rattle.slot.specs.declared.slot.SlotInfo.{SlotInfo}
use Rattle.slot.specs.declared.slot.SlotFields.{SlotFields}
use Rattle.slot.specs.declared.slot.SlotStatus.{SlotStatus}
use Rattle.pair.specs.Pair.{winner_info}
use Rattle.judge.specs.Verdict.{by_index}
use Rattle.judge.specs.Judge.{most_pairs, judgement}
use Rattle.judge.specs.Frames.{verdict_width}
use Rattle.judge.specs.declared.verdict.PairVerdict.{PairVerdict}
use Rattle.judge.specs.declared.verdict.Judgement.{Judgement}
use Rattle.cut.specs.Store.{Slot, Pair, clean_mark, slot_at, report, shown, last_record, Sound}
use Rattle.cut.specs.Cut.{Tear, Write, store, size, expect, old, new, left, with_slot, Possible, next_number, CorrectWith, header_passes, payload_by, is_empty, PayloadIs, ReadBack, Confirmed}
use Rattle.plan.specs.Numbers.{highest_winner}

-- ---- a pair on its way

-- What is remembered of a slot: the payload that the header in it was written with, and its bytes when it was last Valid, or at the start.
pub record Past : Type 0 where
  pub under : List ℕ
  pub valid : List ℕ

-- A pair, what is remembered of its slots, and the records that may be read: the last one finished and those begun after it.
pub record Tracked : Type 0 where
  pub pair : Pair
  pub a : Past
  pub b : Past
  pub known : List (List ℕ)

abbrev pub past : SlotIndex → Tracked → Past
past index t = by_index index t.a t.b

abbrev pub pairs : List Tracked → List Pair
pairs ts = map (λ t. t.pair) ts

-- What stands in the place that the header in a slot tells.
abbrev pub standing : List ℕ → List ℕ
standing s = payload_by s s

-- At the start a slot holds what its header was written with, and the pair's last record is known.
abbrev pub past_of : Slot → Past
past_of s = record { under = standing s.bytes; valid = s.bytes }

abbrev pub started : Pair → Tracked
started p = record { pair = p; a = past_of p.a; b = past_of p.b; known = last_record p ∷ [] }

-- ---- the clean mark

-- The record in the slot that `decide` finds current.
abbrev pub record_in : Option (SlotIndex × SlotInfo) → Pair → List ℕ
record_in (Some won) p = payload_of won.1 (slot_at won.0 p).bytes
record_in None p = []

-- The clean mark of the record that is read from pair 0.
abbrev pub read_mark : List Pair → Bool
read_mark [] = false
read_mark (p ∷ ps) = clean_mark (record_in (winner_info (report p)) p)

-- ---- whose turn it is

-- The slot that the judge names for healing, handed that mark.
abbrev pub named : List Pair → Option (ℕ × SlotIndex)
named ps = (judgement (shown ps) (read_mark ps)).heal

-- The number of a write that heals a pair of the store: one above the winners of its operator.
abbrev pub heal_number : List Pair → Pair → ℕ
heal_number ps p = highest_winner p.operator (shown ps) + 1

-- Where a slot is named, the next write goes there; otherwise it is any, or, where the mark is set, any of pair 0. So its number is n.
pub data Turn (w : Write) : ℕ → Type 0 where
  free : named (store w) ≡ None → (read_mark (store w) ≡ true → is_empty w.before ≡ true) → Turn w (next_number (store w) w.pair)
  healing : named (store w) ≡ Some (length w.before, w.index) → Turn w (heal_number (store w) w.pair)

-- It is the write's turn, and it is correct. Of pair 0 it may set the mark or clear it, where it heals too.
pub record Allowed (w : Write) : Type 0 where
  pub number : ℕ
  pub turn : Turn w number
  pub correct : CorrectWith number w

-- ---- what a write leaves

-- Both slots have the same header.
abbrev pub same_header : List ℕ → List ℕ → Bool
same_header s t = pointwise nat_eq (take 128 s) (take 128 t)

-- What the header that was left was written with: the new payload if it is the new header, what the header before was written with if it
-- is that one, and else the payload of the last Valid version, whose header it may be.
abbrev pub under_after : Write → Past → List ℕ
under_after w before =
    if same_header (left w) (new w) then w.payload else if same_header (left w) (old w) then before.under else standing before.valid

abbrev pub valid_after : SlotStatus → List ℕ → List ℕ → List ℕ
valid_after (SlotStatus.Valid i) s before = s
valid_after _ s before = before

abbrev pub past_after : Write → Past → Past
past_after w before =
    record { under = under_after w before; valid = valid_after (validate (left w) (expect w)) (left w) before.valid }

-- In the slot as the cut left it a header passes its checksum that is neither the one before the cut nor the one being written.
pub record OtherHeader (w : Write) : Type 0 where
  pub passes : header_passes (left w) ≡ true
  pub not_old : take 128 (left w) ≡ take 128 (old w) → ⊥
  pub not_new : take 128 (left w) ≡ take 128 (new w) → ⊥

-- There a payload passes under a header that it was not written with.
pub record OtherPayload (w : Write) (before : Past) : Type 0 where
  pub passes : header_passes (left w) ≡ true
  pub other : standing (left w) ≡ under_after w before → ⊥
  pub sum : crc32c (standing (left w)) ≡ le32 (left w) 28

-- Accident: one of these, or the header being written has the previous checksum of its pair's winner for its own.
pub data HistoryAccident (w : Write) (before : Past) (winner : SlotInfo) : Type 0 where
  header : OtherHeader w → HistoryAccident w before winner
  payload : OtherPayload w before → HistoryAccident w before winner
  link : header_crc w.fields w.payload ≡ winner.prev_header_crc32c → HistoryAccident w before winner

-- Those that do harm. A header that stands again, the one that the slot had when it was last Valid, does none.
pub data HarmfulAccident (w : Write) (before : Past) (winner : SlotInfo) : Type 0 where
  header : OtherHeader w → (take 128 (left w) ≡ take 128 before.valid → ⊥) → HarmfulAccident w before winner
  payload : OtherPayload w before → HarmfulAccident w before winner

-- ---- the history

-- The pair with these bytes in its slot, what is remembered of that slot, and these known records.
abbrev pub tracked : SlotIndex → List ℕ → Past → List (List ℕ) → Tracked → Tracked
tracked SlotIndex.A bytes after known t = record { pair = with_slot SlotIndex.A bytes t.pair; a = after; b = t.b; known = known }
tracked SlotIndex.B bytes after known t = record { pair = with_slot SlotIndex.B bytes t.pair; a = t.a; b = after; known = known }

-- A write to a pair with others before and behind it.
pub record Put : Type 0 where
  pub index : SlotIndex
  pub fields : SlotFields
  pub payload : List ℕ
  pub buffer : List ℕ
  pub tear : Tear

abbrev pub write_to : List Tracked → Tracked → List Tracked → Put → Write
write_to before t behind q =
    record {
      before = pairs before;
      pair = t.pair;
      behind = pairs behind;
      index = q.index;
      fields = q.fields;
      payload = q.payload;
      buffer = q.buffer;
      tear = q.tear;
    }

-- The pair after the write: finished, it has its record alone; cut, what the slot was left with and one record more.
abbrev pub finished : Write → Tracked → Tracked
finished w t = tracked w.index (new w) (record { under = w.payload; valid = new w }) (w.payload ∷ []) t

abbrev pub torn_by : Write → Tracked → Tracked
torn_by w t = tracked w.index (left w) (past_after w (past w.index t)) (w.payload ∷ t.known) t

-- The stores that a history leads to, in which none of these accidents happened.
pub data Reached (Accident : Write → Past → SlotInfo → Type 0) : List Tracked → Type 0 where
  -- A sound store of no more pairs than are judged.
  start : {ps : List Pair} → Sound ps → length ps ≤ most_pairs → Reached Accident (map started ps)
  -- A write that is finished.
  finish : (before : List Tracked) (t : Tracked) (behind : List Tracked) → Reached Accident (before ++ t ∷ behind)
      → (q : Put) → Allowed (write_to before t behind q)
      → Reached Accident (before ++ finished (write_to before t behind q) t ∷ behind)
  -- A write that is cut.
  cut : (before : List Tracked) (t : Tracked) (behind : List Tracked) → Reached Accident (before ++ t ∷ behind)
      → (q : Put) → (allowed : Allowed (write_to before t behind q)) → Possible q.tear (size (write_to before t behind q))
      → (Accident (write_to before t behind q) (past q.index t) allowed.correct.winner → ⊥)
      → Reached Accident (before ++ torn_by (write_to before t behind q) t ∷ behind)

-- ---- what is concluded

-- A known record is read back.
pub record ReadKnown (t : Tracked) (v : PairVerdict) : Type 0 where
  pub payload : List ℕ
  pub back : ReadBack t.pair v payload
  pub known : IsAmong t.known payload

pub data AllReadKnown : List Tracked → List PairVerdict → Type 0 where
  none : AllReadKnown [] []
  more : {t : Tracked} {v : PairVerdict} {ts : List Tracked} {vs : List PairVerdict} → ReadKnown t v → AllReadKnown ts vs
      → AllReadKnown (t ∷ ts) (v ∷ vs)

-- What a host reads from pair 0 has this mark.
abbrev pub MarkIs : Bool → List Pair → Type 0
MarkIs clean [] = Unit {0}
MarkIs clean (p ∷ ps) = (r : List ℕ) → PayloadIs p r → clean_mark r ≡ clean

-- Under this mark, where the lent verdicts were `out`.
pub record Promised (clean : Bool) (ts : List Tracked) (out : List ℕ) : Type 0 where
  pub verdict : List PairVerdict
  pub judgement : Judgement
  -- The judge is handed the mark
  pub judged : Confirmed (pairs ts) clean out verdict judgement
  -- that a host reads, so it will be handed the same one again.
  pub mark : MarkIs clean (pairs ts)
  -- The slot that it names is the one by which the next write goes.
  pub heal : judgement.heal ≡ named (pairs ts)
  pub back : AllReadKnown ts verdict
  -- Where no slot is named, the mark counts as it is.
  pub counts : judgement.heal ≡ None → judgement.clean ≡ clean
  -- A page is named only where the mark is not set.
  pub page : (k : ℕ) (index : SlotIndex) → judgement.heal ≡ Some (suc k, index) → clean ≡ false

abbrev pub HistoryTheorem : Type 0
HistoryTheorem =
    (ts : List Tracked) → Reached HistoryAccident ts → (out : List ℕ) → length out ≡ length ts * verdict_width
    → Promised (read_mark (pairs ts)) ts out
