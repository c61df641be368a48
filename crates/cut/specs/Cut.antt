-- The cut theorem (docs/FORMAT.md, "The sound store and the cut"): a correct write to a sound store of no more pairs than are judged is cut,
-- after k of its bytes or with some of its sectors. Unless an accident happened, every pair is judged Confirmed, the store is writable, no
-- slot but the written one is healed, and every pair's last written record is read back: in the written pair the new one if and only if it
-- stands whole.
--
-- The definitions of other crates that are named here are those that the contracts of `encode`, `validate`, `header_facts`, `judge`, the
-- winner's payload and the decoders state.
use Rattle.std.specs.Prelude.{◌≡◌, ◌⊎◌, Bool, true, false, ◌&&◌, ◌==◌, nat_le, nat_eq, if◌then◌else◌, List, [], ◌∷◌, ◌++◌, ℕ, ◌+◌, ◌*◌, ◌/◌, ◌^◌, ◌≤◌, ◌<◌, length, take, drop, Some, None, Ok}
use Rattle.std.specs.Borrow.{Bor}
use lib.Pointwise.{pointwise}
use Rattle.codec.specs.Bytes.{AllBytes, le16, le32}
use Rattle.codec.specs.Crc32c.{crc32c}
use Rattle.slot.specs.Status.{other}
use Rattle.slot.specs.Header.{header as fields_of}
use Rattle.slot.specs.Payload.{payload as payload_of}
use Rattle.slot.specs.Read.{header_info, header_sum}
use Rattle.slot.specs.Write.{encode}
use Rattle.slot.specs.declared.slot.SlotIndex.{SlotIndex}
use Rattle.slot.specs.declared.slot.SlotInfo.{SlotInfo}
use Rattle.slot.specs.declared.slot.SlotFields.{SlotFields}
use Rattle.slot.specs.declared.slot.Expect.{Expect}
use Rattle.pair.specs.Pair.{winner_info}
use Rattle.pair.specs.Winner.{WinnerPart}
use Rattle.judge.specs.Numbers.{numbers, highest}
use Rattle.judge.specs.Judge.{most_pairs}
use Rattle.judge.specs.Frames.{verdict_width, row_bytes, judge_frames, frames_left}
use Rattle.judge.specs.Records.{judge_records, records_left}
use Rattle.judge.specs.Same.{mark}
use Rattle.judge.specs.declared.verdict.Standing.{Standing}
use Rattle.judge.specs.declared.verdict.PairVerdict.{PairVerdict}
use Rattle.judge.specs.declared.verdict.Judgement.{Judgement}
use Rattle.cut.specs.Store.{Every, Slot, Pair, accepts, clean_mark, slot_at, report, reads, shown, frames, last_record, last_records, store_mark, Sound}

-- ---- the write and the cut

-- What of a write reached the slot before the cut.
pub data Tear : Type 0 where
  -- Its bytes in ascending order: the first k.
  Ascending : ℕ → Tear
  -- Its aligned sectors, each whole, in no fixed order: those that are told, counted from 0.
  Sectors : (ℕ → Bool) → Tear

-- A write to the slot at the index of a pair, in a store with other pairs before and behind it: `encode` of the fields and the payload
-- into a buffer, and what of it reached the slot.
pub record Write : Type 0 where
  pub before : List Pair
  pub pair : Pair
  pub behind : List Pair
  pub index : SlotIndex
  pub fields : SlotFields
  pub payload : List ℕ
  pub buffer : List ℕ
  pub tear : Tear

abbrev pub store : Write → List Pair
store w = w.before ++ w.pair ∷ w.behind

abbrev pub size : Write → ℕ
size w = 2 ^ w.fields.log2_slot_size

abbrev pub expect : Write → Expect
expect w = (slot_at w.index w.pair).expect

abbrev pub old : Write → List ℕ
old w = (slot_at w.index w.pair).bytes

abbrev pub new : Write → List ℕ
new w = (encode w.fields w.payload w.buffer).0

-- Cut after k bytes: the first k new, the others old, as bytes reach the slot in ascending order.
unfoldable pub cut : ℕ → List ℕ → List ℕ → List ℕ
cut k new old = take k new ++ drop k old

-- Bytes of a sector.
abbrev pub sector_size : ℕ
sector_size = 512

-- From the ith byte on, each byte is new if its sector is, and else old.
unfoldable pub by_sector : (ℕ → Bool) → ℕ → List ℕ → List ℕ → List ℕ
by_sector reached i [] old = []
by_sector reached i (x ∷ new) [] = []
by_sector reached i (x ∷ new) (y ∷ old) = (if reached (i / sector_size) then x else y) ∷ by_sector reached (i + 1) new old

abbrev pub torn : Tear → List ℕ → List ℕ → List ℕ
torn (Ascending k) new old = cut k new old
torn (Sectors reached) new old = by_sector reached 0 new old

-- The slot as the cut left it.
abbrev pub left : Write → List ℕ
left w = torn w.tear (new w) (old w)

abbrev pub with_bytes : List ℕ → Slot → Slot
with_bytes bytes s = record { bytes = bytes; expect = s.expect; rest = s.rest }

abbrev pub with_slot : SlotIndex → List ℕ → Pair → Pair
with_slot SlotIndex.A bytes p = record p { a = with_bytes bytes p.a }
with_slot SlotIndex.B bytes p = record p { b = with_bytes bytes p.b }

-- The store after the cut: every other slot is as it was.
abbrev pub after : Write → List Pair
after w = w.before ++ with_slot w.index (left w) w.pair ∷ w.behind

-- k is 0 or from 8 to the slot's size: of one to seven bytes nothing is said.
abbrev pub CutPoint : ℕ → ℕ → Type 0
CutPoint k size = (k ≡ 0) ⊎ ((8 ≤ k) × (k ≤ size))

-- Any set of sectors may have reached the slot.
abbrev pub Possible : Tear → ℕ → Type 0
Possible (Ascending k) size = CutPoint k size
Possible (Sectors reached) size = Unit {0}

-- It may be cut anywhere: after any number of its bytes, or with any set of its sectors.
abbrev pub Anywhere : Tear → ℕ → Type 0
Anywhere (Ascending k) size = k ≤ size
Anywhere (Sectors reached) size = Unit {0}

-- The number of a write to a pair of the store: one above the highest of all numbered slots of its operator.
abbrev pub next_number : List Pair → Pair → ℕ
next_number ps p = highest (numbers p.operator (shown ps)) + 1

-- What is written has this generation, previous checksum and number: in format 2 with the identity and size that its slot is read with,
-- generation and number below 2^64, an acceptable payload that fits the slot. The owner generation, the compatible flags and the payload
-- are of their types, and the buffer is of the slot's size.
pub record Written (generation prev number : ℕ) (w : Write) : Type 0 where
  pub format : w.fields.format_major ≡ 2
  pub volume : w.fields.volume_uuid ≡ (expect w).volume_uuid
  pub object : w.fields.object_id ≡ (expect w).object_id
  pub offset : w.fields.slot_offset ≡ (expect w).slot_offset
  pub index : w.fields.slot_index ≡ (expect w).slot_index
  pub log2 : w.fields.log2_slot_size ≡ (expect w).log2_slot_size
  pub generation_is : w.fields.generation ≡ generation
  pub generation_fits : w.fields.generation < 2 ^ 64
  pub prev_is : w.fields.prev_header_crc32c ≡ prev
  pub number_is : w.fields.meta_seq ≡ number
  pub number_fits : w.fields.meta_seq < 2 ^ 64
  pub owner : w.fields.owner_generation < 2 ^ 64
  pub compat : w.fields.compat_flags < 2 ^ 32
  pub bytes : AllBytes w.payload
  pub accepted : accepts w.pair.decoder w.payload ≡ true
  pub fits : 128 + length w.payload ≤ size w
  pub room : length w.buffer ≡ size w

-- Correct write with a number n: for the slot that is not the winner, generation one up, previous checksum the winner's.
pub record CorrectWith (n : ℕ) (w : Write) : Type 0 where
  pub winner : SlotInfo
  pub won : winner_info (report w.pair) ≡ Some (other w.index, winner)
  pub written : Written (winner.generation + 1) winner.header_crc32c n w

-- Correct write: its number is one above its operator's highest.
abbrev pub CorrectWrite : Write → Type 0
CorrectWrite w = CorrectWith (next_number (store w) w.pair) w

-- ---- what the cut left

-- The new record stands whole in a slot: all its header and payload bytes equal the write's; what follows them does not count.
unfoldable pub stands_whole : List ℕ → List ℕ → List ℕ → Bool
stands_whole s new payload = pointwise nat_eq (take (128 + length payload) s) (take (128 + length payload) new)

abbrev pub whole : Write → Bool
whole w = stands_whole (left w) (new w) w.payload

-- A header passes its checksum: `validate`'s test, its length within the slot and the sum over it the stored one.
unfoldable pub header_passes : List ℕ → Bool
header_passes s = (nat_le 128 (le16 s 12) && nat_le (le16 s 12) (length s)) && (header_sum s (le16 s 12) == le32 s 8)

-- What stands in the place of the payload.
abbrev pub payload_in : List ℕ → List ℕ → List ℕ
payload_in s payload = take (length payload) (drop 128 s)

-- Accident: in the slot s as the cut left it,
pub data Accident (s old new payload : List ℕ) : Type 0 where
  -- a header neither old nor new passes its checksum,
  header : header_passes s ≡ true → (take 128 s ≡ take 128 old → ⊥) → (take 128 s ≡ take 128 new → ⊥) → Accident s old new payload
  -- or under the new header a payload other than the new one does.
  payload : take 128 s ≡ take 128 new
      → (payload_in s payload ≡ payload → ⊥)
      → crc32c (payload_in s payload) ≡ le32 s 28
      → Accident s old new payload

-- The payload that a slot has by the header of the same or of another one.
abbrev pub payload_by : List ℕ → List ℕ → List ℕ
payload_by head s = payload_of (header_info (fields_of head)) s

-- Where sectors are finished in their own order, an accident is also that under the old header a payload other than the old one passes
-- its checksum.
pub data SectorAccident (s old new payload : List ℕ) : Type 0 where
  either : Accident s old new payload → SectorAccident s old new payload
  older : header_passes s ≡ true
      → take 128 s ≡ take 128 old
      → (payload_by old s ≡ payload_by old old → ⊥)
      → crc32c (payload_by old s) ≡ le32 s 28
      → SectorAccident s old new payload

abbrev pub AccidentBy : Tear → List ℕ → List ℕ → List ℕ → List ℕ → Type 0
AccidentBy (Ascending k) s before after r = Accident s before after r
AccidentBy (Sectors reached) s before after r = SectorAccident s before after r

-- ---- judged and read back

abbrev pub is_empty : List Pair → Bool
is_empty [] = true
is_empty (p ∷ ps) = false

-- The judge is handed the mark of before, or, if pair 0's new record stands whole, that record's mark.
unfoldable pub handed : Write → Bool
handed w = if is_empty w.before then (if whole w then clean_mark w.payload else store_mark (store w)) else store_mark (store w)

-- Where the store's mark is set, the pair that is written is pair 0.
abbrev pub VolumeIfMarked : List Pair → Pair → List Pair → Type 0
VolumeIfMarked before p behind = store_mark (before ++ p ∷ behind) ≡ true → is_empty before ≡ true

-- Every pair's last written record: in the written pair the new one if it stands whole.
abbrev pub records : Write → List (List ℕ)
records w = last_records w.before ++ (if whole w then w.payload else last_record w.pair) ∷ last_records w.behind

-- The winner's payload is r: where the slots' bytes are lent as a and b, every part that `winner_payload` may hand back holds r.
abbrev pub PayloadIs : Pair → List ℕ → Type 0
PayloadIs p r =
    (a b part : Bor (List ℕ)) → a.now ≡ p.a.bytes → b.now ≡ p.b.bytes → WinnerPart (winner_info (report p)) a b part → part.now ≡ r

-- Read back: the winner's payload part, from the slot that the verdict names as winner, and the pair's decoder accepts it.
pub record ReadBack (p : Pair) (v : PairVerdict) (r : List ℕ) : Type 0 where
  pub index : SlotIndex
  pub info : SlotInfo
  pub named : v.winner ≡ Some index
  pub won : winner_info (report p) ≡ Some (index, info)
  pub part : PayloadIs p r
  pub accepted : accepts p.decoder r ≡ true

pub data AllReadBack : List Pair → List PairVerdict → List (List ℕ) → Type 0 where
  none : AllReadBack [] [] []
  more : {p : Pair} {v : PairVerdict} {r : List ℕ} {ps : List Pair} {vs : List PairVerdict} {rs : List (List ℕ)}
      → ReadBack p v r → AllReadBack ps vs rs → AllReadBack (p ∷ ps) (v ∷ vs) (r ∷ rs)

-- What the judge answers over the pairs, handed this mark, where the lent verdicts were `out`: every pair is Confirmed, and the store is
-- writable.
pub record Confirmed (ps : List Pair) (clean : Bool) (out : List ℕ) (verdict : List PairVerdict) (judgement : Judgement) : Type 0 where
  -- `judge` over the frames,
  pub answer : judge_frames (frames ps) (mark clean) (length out) ≡ Ok judgement
  pub written : frames_left (frames ps) (mark clean) out ≡ row_bytes verdict
  -- and over the row of pairs the same.
  pub row_answer : judge_records (reads ps) clean (length ps) ≡ Ok judgement
  pub row_written : (rows : List PairVerdict) → length rows ≡ length ps → records_left (reads ps) clean rows ≡ verdict
  pub confirmed : Every (λ (v : PairVerdict). v.standing ≡ Standing.Confirmed) verdict
  pub writable : judgement.writable ≡ true

-- What is concluded of a cut.
pub record Survives (w : Write) (out : List ℕ) : Type 0 where
  pub verdict : List PairVerdict
  pub judgement : Judgement
  pub judged : Confirmed (after w) (handed w) out verdict judgement
  pub heal : (judgement.heal ≡ None) ⊎ (judgement.heal ≡ Some (length w.before, w.index))
  pub back : AllReadBack (after w) verdict (records w)

abbrev pub CutTheorem : Type 0
CutTheorem =
    (w : Write)
    → Sound (store w)
    → length (store w) ≤ most_pairs
    → VolumeIfMarked w.before w.pair w.behind
    → CorrectWrite w
    → Possible w.tear (size w)
    → (AccidentBy w.tear (left w) (old w) (new w) w.payload → ⊥)
    → (out : List ℕ) → length out ≡ length (store w) * verdict_width
    → Survives w out
