-- Laws on the words of the cut theorem (docs/FORMAT.md, "The sound store and the cut"). It would also hold of a store that always has the
-- mark, of a decoder that accepts anything or of a frame that holds less; these laws would not. Each is the contract of a function.
use Rattle.std.specs.Prelude.{◌≡◌, ◌⊎◌, Bool, true, false, if◌then◌else◌, List, [], ◌∷◌, ◌++◌, ℕ, ◌+◌, ◌*◌, ◌^◌, ◌≤◌, ◌<◌, length, map, slice_get, get_or, take, drop, Some, Ok, Err}
use Rattle.codec.specs.Bytes.{AllBytes, le16, le32}
use Rattle.codec.specs.Crc32c.{crc32c}
use Rattle.slot.specs.Status.{other}
use Rattle.slot.specs.Payload.{payload}
use Rattle.slot.specs.Read.{header_facts, header_sum}
use Rattle.slot.specs.Write.{encode, header_crc}
use Rattle.slot.specs.declared.slot.SlotIndex.{SlotIndex}
use Rattle.slot.specs.declared.slot.SlotInfo.{SlotInfo}
use Rattle.slot.specs.declared.slot.SlotStatus.{SlotStatus}
use Rattle.slot.specs.declared.slot.Expect.{Expect}
use Rattle.pair.specs.Pair.{winner_info}
use Rattle.judge.specs.Numbers.{numbers, highest}
use Rattle.judge.specs.Operators.{operators_in_range}
use Rattle.judge.specs.Judge.{most_pairs}
use Rattle.judge.specs.Frames.{verdict_width}
use Rattle.judge.specs.Same.{VersionFits}
use Rattle.judge.specs.Part.{part_of, part_bytes}
use Rattle.judge.specs.declared.pairs.Version.{Version}
use Rattle.meta.specs.Volume.{decode_volume}
use Rattle.meta.specs.Page.{decode_page}
use Rattle.meta.specs.declared.meta.MetaError.{MetaError}
use Rattle.cut.specs.Store.{Every, Volume, Page, accepts, clean_mark, Slot, Pair, slot_at, status, report, shown, frames, store_mark, Typed, SoundSlot, SoundPair, IsPage, IsRow, Sound}
use Rattle.cut.specs.Cut.{Ascending, Sectors, Write, store, size, expect, old, new, torn, left, CutPoint, Possible, Anywhere, Written, CorrectWith, CorrectWrite, whole, header_passes, payload_in, Accident, payload_by, SectorAccident, handed, VolumeIfMarked, PayloadIs, Survives}

-- ---- the decoders

-- A volume record that its decoder refuses is not accepted,
abbrev pub VolumeRefused : Type 0
VolumeRefused = (r : List ℕ) (error : MetaError) → decode_volume r ≡ Err error → accepts Volume r ≡ false

-- and neither is a page.
abbrev pub PageRefused : Type 0
PageRefused = (index most : ℕ) (r : List ℕ) (error : MetaError) → decode_page r index most ≡ Err error → accepts (Page index most) r ≡ false

-- ---- what a sound store asks for

-- Nothing else is asked of the fields of a frame that are not given,
abbrev pub AnyRest : Type 0
AnyRest =
    (v : Version) → v.generation < 2 ^ 64 → v.meta_seq < 2 ^ 64 → v.header_crc32c < 2 ^ 32 → v.prev_header_crc32c < 2 ^ 32
    → v.owner_generation < 2 ^ 64 → VersionFits v

-- of what the types say of a slot,
abbrev pub AnyTyped : Type 0
AnyTyped =
    (s : Slot) → AllBytes s.bytes → length s.expect.volume_uuid ≡ 16 → AllBytes s.expect.volume_uuid → s.expect.object_id < 2 ^ 64
    → s.expect.slot_offset < 2 ^ 64 → VersionFits s.rest → Typed s

-- of a slot,
abbrev pub AnySlot : Type 0
AnySlot =
    (s : Slot) → AllBytes s.bytes → length s.expect.volume_uuid ≡ 16 → AllBytes s.expect.volume_uuid → s.expect.object_id < 2 ^ 64
    → s.expect.slot_offset < 2 ^ 64 → VersionFits s.rest → s.expect.format_major ≡ 2 → s.expect.numbered ≡ true → SoundSlot s

-- of a pair whose slot A alone was written,
abbrev pub AnyFirst : Type 0
AnyFirst =
    (p : Pair) (i : SlotInfo) → ((index : SlotIndex) → SoundSlot (slot_at index p)) → status p.a ≡ SlotStatus.Valid i → i.generation ≡ 1
    → status p.b ≡ SlotStatus.Blank → accepts p.decoder (payload i p.a.bytes) ≡ true → SoundPair p

-- of one whose slots both were,
abbrev pub AnyBoth : Type 0
AnyBoth =
    (p : Pair) (newer : SlotIndex) (i j : SlotInfo) → ((index : SlotIndex) → SoundSlot (slot_at index p))
    → status (slot_at newer p) ≡ SlotStatus.Valid i → status (slot_at (other newer) p) ≡ SlotStatus.Valid j
    → i.generation ≡ j.generation + 1 → j.meta_seq < i.meta_seq → i.prev_header_crc32c ≡ j.header_crc32c
    → accepts p.decoder (payload i (slot_at newer p).bytes) ≡ true → accepts p.decoder (payload j (slot_at (other newer) p).bytes) ≡ true
    → SoundPair p

-- of a page,
abbrev pub AnyPage : Type 0
AnyPage = (p : Pair) (index most : ℕ) → p.decoder ≡ Page index most → IsPage p

-- of all pairs, that they are pages or sound: each is, however many they are,
abbrev pub EveryPair : (Pair → Type 0) → Type 0
EveryPair P = (ps : List Pair) → ((i : ℕ) (p : Pair) → slice_get ps i ≡ Some p → P p) → Every P ps

abbrev pub AnyPairs : Type 0
AnyPairs = EveryPair IsPage × EveryPair SoundPair

-- and of the row, however long it is.
abbrev pub AnyRow : Type 0
AnyRow =
    (p : Pair) (ps : List Pair) → p.decoder ≡ Volume → Every IsPage ps → operators_in_range true (shown (p ∷ ps)) ≡ true
    → Every SoundPair (p ∷ ps) → IsRow (p ∷ ps) × Sound (p ∷ ps)

-- Nor of what is written, and of a correct write.
abbrev pub AnyWritten : Type 0
AnyWritten =
    (generation prev number : ℕ) (w : Write) → w.fields.format_major ≡ 2 → w.fields.volume_uuid ≡ (expect w).volume_uuid
    → w.fields.object_id ≡ (expect w).object_id → w.fields.slot_offset ≡ (expect w).slot_offset → w.fields.slot_index ≡ (expect w).slot_index
    → w.fields.log2_slot_size ≡ (expect w).log2_slot_size → w.fields.generation ≡ generation → w.fields.generation < 2 ^ 64
    → w.fields.prev_header_crc32c ≡ prev → w.fields.meta_seq ≡ number → w.fields.meta_seq < 2 ^ 64 → w.fields.owner_generation < 2 ^ 64
    → w.fields.compat_flags < 2 ^ 32 → AllBytes w.payload → accepts w.pair.decoder w.payload ≡ true → 128 + length w.payload ≤ size w
    → length w.buffer ≡ size w → Written generation prev number w

abbrev pub AnyCorrect : Type 0
AnyCorrect =
    (n : ℕ) (w : Write) (winner : SlotInfo) → winner_info (report w.pair) ≡ Some (other w.index, winner)
    → Written (winner.generation + 1) winner.header_crc32c n w → CorrectWith n w

-- Its number is one above the highest of all numbered slots of its pair's operator.
abbrev pub AnyCorrectWrite : Type 0
AnyCorrectWrite = (w : Write) → CorrectWith (highest (numbers w.pair.operator (shown (w.before ++ w.pair ∷ w.behind))) + 1) w → CorrectWrite w

-- Nor is anything else asked of the store, of the write and of the cut: of up to 112 pairs, where the mark is not set or pair 0 is written,
-- after no byte or after 8 or more, or with any of the sectors.
pub record AnyCutSurvived : Type 0 where
  pub ascending : (w : Write) (k : ℕ) → Sound (w.before ++ w.pair ∷ w.behind) → length (w.before ++ w.pair ∷ w.behind) ≤ 112
      → (store_mark (w.before ++ w.pair ∷ w.behind) ≡ false) ⊎ (w.before ≡ []) → CorrectWrite w
      → w.tear ≡ Ascending k → (k ≡ 0) ⊎ ((8 ≤ k) × (k ≤ 2 ^ w.fields.log2_slot_size))
      → (Accident (left w) (old w) (new w) w.payload → ⊥)
      → (out : List ℕ) → length out ≡ length (w.before ++ w.pair ∷ w.behind) * 4 → Survives w out
  pub sectors : (w : Write) (reached : ℕ → Bool) → Sound (w.before ++ w.pair ∷ w.behind) → length (w.before ++ w.pair ∷ w.behind) ≤ 112
      → (store_mark (w.before ++ w.pair ∷ w.behind) ≡ false) ⊎ (w.before ≡ []) → CorrectWrite w
      → w.tear ≡ Sectors reached
      → (SectorAccident (left w) (old w) (new w) w.payload → ⊥)
      → (out : List ℕ) → length out ≡ length (w.before ++ w.pair ∷ w.behind) * 4 → Survives w out

-- ---- the operators

abbrev pub of_operator : ℕ → Pair → Pair
of_operator o p = record p { operator = o }

-- A store that is sound with all its pairs operator 0's, as stores with one count for all are, is sound under any operators in range.
abbrev pub SoundUnderAny : Type 0
SoundUnderAny = (ps : List Pair) → Sound (map (of_operator 0) ps) → operators_in_range true (shown ps) ≡ true → Sound ps

-- ---- the write

-- A correct write to a sound pair: `encode` refuses nothing.
abbrev pub Encoded : Type 0
Encoded = (w : Write) → SoundPair w.pair → CorrectWrite w → (encode w.fields w.payload w.buffer).1 ≡ Ok (header_crc w.fields w.payload)

-- ---- the cut by sectors

-- Each sector of 512 bytes is wholly the new one or wholly the old one,
abbrev pub EachSector : Type 0
EachSector =
    (reached : ℕ → Bool) (new old : List ℕ) → length old ≡ length new → (j : ℕ)
    → take 512 (drop (512 * j) (torn (Sectors reached) new old))
    ≡ (if reached j then take 512 (drop (512 * j) new) else take 512 (drop (512 * j) old))

-- and any set of them may have reached the slot.
abbrev pub AnySectors : Type 0
AnySectors = (reached : ℕ → Bool) (size : ℕ) → Possible (Sectors reached) size

-- In ascending order the cut is after no byte, or after 8 or more of the slot's.
abbrev pub AnyPoint : Type 0
AnyPoint = (k size : ℕ) → (k ≡ 0) ⊎ ((8 ≤ k) × (k ≤ size)) → Possible (Ascending k) size

-- ---- the cut anywhere

-- After any number of the slot's bytes,
abbrev pub AnywhereInOrder : Type 0
AnywhereInOrder = (k size : ℕ) → k ≤ size → Anywhere (Ascending k) size

-- or by sectors.
abbrev pub AnywhereBySectors : Type 0
AnywhereBySectors = (reached : ℕ → Bool) (size : ℕ) → Anywhere (Sectors reached) size

-- ---- the mark

-- A volume record with 0 in its byte 54 has no clean mark,
abbrev pub UnmarkedRecord : Type 0
UnmarkedRecord = (r : List ℕ) → get_or r 54 0 ≡ 0 → clean_mark r ≡ false

-- and neither has a store with such a record in the newer slot of its pair 0.
abbrev pub UnmarkedStore : Type 0
UnmarkedStore =
    (p : Pair) (ps : List Pair) (sound : SoundPair p) → get_or (payload sound.info (slot_at sound.newer p).bytes) 54 0 ≡ 0
    → store_mark (p ∷ ps) ≡ false

-- The theorem asks that the mark is not set,
abbrev pub UnmarkedAsked : Type 0
UnmarkedAsked = (before : List Pair) (p : Pair) (behind : List Pair) → store_mark (before ++ p ∷ behind) ≡ false → VolumeIfMarked before p behind

-- or that pair 0 is written, whatever the mark.
abbrev pub VolumeAsked : Type 0
VolumeAsked = (p : Pair) (behind : List Pair) → VolumeIfMarked [] p behind

-- After a write to a page the judge is handed the mark of before,
abbrev pub PageHanded : Type 0
PageHanded = (w : Write) (p : Pair) (ps : List Pair) → w.before ≡ p ∷ ps → handed w ≡ store_mark (store w)

-- and where the new record does not stand whole as well;
abbrev pub TornHanded : Type 0
TornHanded = (w : Write) → whole w ≡ false → handed w ≡ store_mark (store w)

-- where pair 0's new record stands whole, it is handed that record's mark.
abbrev pub WholeHanded : Type 0
WholeHanded = (w : Write) → w.before ≡ [] → whole w ≡ true → handed w ≡ clean_mark w.payload

-- ---- the accident

-- There is none where the sum of a header other than the new one is not the stored one,
abbrev pub FailedSum : Type 0
FailedSum =
    (s old new payload : List ℕ) → (take 128 s ≡ take 128 new → ⊥) → (header_sum s (le16 s 12) ≡ le32 s 8 → ⊥)
    → Accident s old new payload → ⊥

-- and where under the new header the payload's checksum is not the stored one.
abbrev pub FailedPayload : Type 0
FailedPayload =
    (s old new payload : List ℕ) → take 128 s ≡ take 128 new → (crc32c (payload_in s payload) ≡ le32 s 28 → ⊥)
    → Accident s old new payload → ⊥

-- By sectors there is one more at most: under the old header a payload passes that is not the old one.
abbrev pub OlderAtMost : Type 0
OlderAtMost =
    (s old new payload : List ℕ) → (Accident s old new payload → ⊥)
    → (header_passes s ≡ true → take 128 s ≡ take 128 old → crc32c (payload_by old s) ≡ le32 s 28 → payload_by old s ≡ payload_by old old)
    → SectorAccident s old new payload → ⊥

-- The theorem does not need that there is none: its conclusion holds where that one alone happened.
abbrev pub OlderSurvived : Type 0
OlderSurvived =
    (w : Write) → Sound (store w) → length (store w) ≤ most_pairs → VolumeIfMarked w.before w.pair w.behind → CorrectWrite w → Possible w.tear (size w)
    → (Accident (left w) (old w) (new w) w.payload → ⊥)
    → (out : List ℕ) → length out ≡ length (store w) * verdict_width → Survives w out

-- In ascending order that one cannot happen: a slot with the old header is the old slot,
abbrev pub OldHeaderKept : Type 0
OldHeaderKept =
    (w : Write) (k : ℕ) → SoundPair w.pair → CorrectWrite w → w.tear ≡ Ascending k → CutPoint k (size w)
    → take 128 (left w) ≡ take 128 (old w) → left w ≡ old w

-- and an accident by sectors is one of those that count in ascending order.
abbrev pub NoneInOrder : Type 0
NoneInOrder =
    (w : Write) (k : ℕ) → SoundPair w.pair → CorrectWrite w → w.tear ≡ Ascending k → CutPoint k (size w)
    → SectorAccident (left w) (old w) (new w) w.payload → Accident (left w) (old w) (new w) w.payload

-- ---- the frames

-- Where nothing is given, where only the own checksum is, and where all is but the owner generation, a part of a frame holds what the host
-- left in the other fields: NothingGiven, ChecksumGiven and NumbersGiven of the judge's crate.

-- A host that leaves zeros there.
abbrev pub zeros : Version
zeros = record { generation = 0; meta_seq = 0; header_crc32c = 0; prev_header_crc32c = 0; owner_generation = 0 }

-- Then a pair's frame is the bytes of the parts that `SlotPart::new` gives, A's and then B's, and the pair's operator.
abbrev pub PairFrame : Type 0
PairFrame =
    (p : Pair) (ps : List Pair) → p.a.rest ≡ zeros → p.b.rest ≡ zeros
    → frames (p ∷ ps)
    ≡ part_bytes (part_of (status p.a) (header_facts p.a.bytes p.a.expect))
    ++ (part_bytes (part_of (status p.b) (header_facts p.b.bytes p.b.expect)) ++ p.operator ∷ frames ps)

-- ---- the read-back

-- Of every pair one record at most is read back.
abbrev pub OnePayload : Type 0
OnePayload = (p : Pair) (r s : List ℕ) → PayloadIs p r → PayloadIs p s → r ≡ s

-- A pair whose slots hold the bytes a and b and are read with ea and eb.
pub record HasSlots (p : Pair) (a : List ℕ) (ea : Expect) (b : List ℕ) (eb : Expect) : Type 0 where
  pub bytes_a : p.a.bytes ≡ a
  pub expect_a : p.a.expect ≡ ea
  pub bytes_b : p.b.bytes ≡ b
  pub expect_b : p.b.expect ≡ eb

-- Nothing else is asked of it.
abbrev pub AnyHasSlots : Type 0
AnyHasSlots =
    (p : Pair) (a : List ℕ) (ea : Expect) (b : List ℕ) (eb : Expect) → p.a.bytes ≡ a → p.a.expect ≡ ea → p.b.bytes ≡ b → p.b.expect ≡ eb
    → HasSlots p a ea b eb
