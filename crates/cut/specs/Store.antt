-- The sound store (docs/FORMAT.md, "The sound store and the cut"): its slots and pairs, how they are read and judged, and when it is sound.
use Rattle.std.specs.Prelude.{◌≡◌, Bool, true, false, List, [], ◌∷◌, ℕ, ◌+◌, ◌^◌, ◌<◌, nat_lt, if◌then◌else◌, length, map, Option, Some, None, Result, Ok, Err, is_ok}
use Rattle.codec.specs.Bytes.{AllBytes}
use Rattle.slot.specs.Status.{other, info}
use Rattle.slot.specs.Payload.{payload}
use Rattle.slot.specs.Read.{validate, header_facts}
use Rattle.slot.specs.declared.slot.SlotIndex.{SlotIndex}
use Rattle.slot.specs.declared.slot.SlotInfo.{SlotInfo}
use Rattle.slot.specs.declared.slot.SlotStatus.{SlotStatus}
use Rattle.slot.specs.declared.slot.Expect.{Expect}
use Rattle.pair.specs.Winner.{read_pair}
use Rattle.pair.specs.declared.pair.PairReport.{PairReport}
use Rattle.judge.specs.Verdict.{by_index}
use Rattle.judge.specs.Operators.{operators_in_range}
use Rattle.judge.specs.Same.{Framed, VersionFits, frames_of, pairs_of}
use Rattle.judge.specs.Records.{pair_read}
use Rattle.judge.specs.declared.pairs.Version.{Version}
use Rattle.judge.specs.declared.pairs.Pair.{Pair as ShownPair}
use Rattle.judge.specs.declared.records.SlotRead.{SlotRead}
use Rattle.judge.specs.declared.records.PairRead.{PairRead}
use Rattle.meta.specs.Volume.{decode_volume}
use Rattle.meta.specs.Page.{decode_page}
use Rattle.meta.specs.declared.meta.MetaError.{MetaError}
use Rattle.meta.specs.declared.meta2.VolumeMeta2.{VolumeMeta2}

-- Every element has a property.
pub data Every {T : Type 0} (P : T → Type 0) : List T → Type 0 where
  none : Every P []
  more : {x : T} {xs : List T} → P x → Every P xs → Every P (x ∷ xs)

-- ---- the decoder of a pair

-- The volume record's, or a page's with an index and a maximum.
pub data Decoder : Type 0 where
  Volume : Decoder
  Page : ℕ → ℕ → Decoder

abbrev pub accepts : Decoder → List ℕ → Bool
accepts Volume r = is_ok (decode_volume r)
accepts (Page index most) r = is_ok (decode_page r index most)

abbrev pub mark_by : Result VolumeMeta2 MetaError → Bool
mark_by (Ok volume) = volume.clean_close
mark_by (Err error) = false

-- The clean mark of a volume record.
abbrev pub clean_mark : List ℕ → Bool
clean_mark r = mark_by (decode_volume r)

-- ---- slots and pairs

-- A slot's bytes, the identity and size it is read with, and what its part of a frame holds in the fields that are not given.
pub record Slot : Type 0 where
  pub bytes : List ℕ
  pub expect : Expect
  pub rest : Version

pub record Pair : Type 0 where
  pub a : Slot
  pub b : Slot
  pub decoder : Decoder
  -- Whose records it holds.
  pub operator : ℕ

abbrev pub slot_at : SlotIndex → Pair → Slot
slot_at index p = by_index index p.a p.b

abbrev pub status : Slot → SlotStatus
status s = validate s.bytes s.expect

-- What `decide` reports of a pair.
abbrev pub report : Pair → PairReport
report p = read_pair p.a.bytes p.a.expect p.b.bytes p.b.expect

-- ---- the row of pairs, and the frames

-- A slot is validated, and its `header_facts` taken, with the identity and size it is read with.
abbrev pub slot_read : Slot → SlotRead
slot_read s = record { status = status s; facts = header_facts s.bytes s.expect }

-- A pair as it is read, with what is left in the other fields of its frame; and the row of them.
abbrev pub framed_pair : Pair → Framed
framed_pair p =
    record { pair = record { a = slot_read p.a; b = slot_read p.b; operator = p.operator }; rest_a = p.a.rest; rest_b = p.b.rest }

abbrev pub framed : List Pair → List Framed
framed ps = map framed_pair ps

abbrev pub reads : List Pair → List PairRead
reads ps = pairs_of (framed ps)

-- What the judge is told of them.
abbrev pub shown : List Pair → List ShownPair
shown ps = map pair_read (reads ps)

-- The frames filled from all pairs: in a slot's part of a frame the fields that are given, and the rest as it was.
abbrev pub frames : List Pair → List ℕ
frames ps = frames_of (framed ps)

-- ---- the last written records

abbrev pub record_by : Option SlotInfo → Option SlotInfo → List ℕ → List ℕ → List ℕ
record_by (Some i) (Some j) a b = if nat_lt i.generation j.generation then payload j b else payload i a
record_by (Some i) None a b = payload i a
record_by None (Some j) a b = payload j b
record_by None None a b = []

-- A record is a payload; a pair's last written one lies in its Valid slot of the highest generation.
unfoldable pub last_record : Pair → List ℕ
last_record p = record_by (info (status p.a)) (info (status p.b)) p.a.bytes p.b.bytes

abbrev pub last_records : List Pair → List (List ℕ)
last_records [] = []
last_records (p ∷ ps) = last_record p ∷ last_records ps

-- The store's clean mark is that of pair 0's last written record.
abbrev pub store_mark : List Pair → Bool
store_mark [] = false
store_mark (p ∷ ps) = clean_mark (last_record p)

-- ---- sound

-- What the types say of a slot's bytes, of its identity and of the fields of a frame.
pub record Typed (s : Slot) : Type 0 where
  pub bytes : AllBytes s.bytes
  pub volume : length s.expect.volume_uuid ≡ 16
  pub volume_bytes : AllBytes s.expect.volume_uuid
  pub object : s.expect.object_id < 2 ^ 64
  pub offset : s.expect.slot_offset < 2 ^ 64
  pub rest : VersionFits s.rest

-- Format 2 and numbered.
pub record SoundSlot (s : Slot) : Type 0 where
  pub typed : Typed s
  pub format : s.expect.format_major ≡ 2
  pub numbered : s.expect.numbered ≡ true

-- The slot beside the newer one of info i.
pub data Beside (p : Pair) (newer : SlotIndex) (i : SlotInfo) : Type 0 where
  -- A is of generation 1, and B is Blank.
  first : newer ≡ SlotIndex.A → i.generation ≡ 1 → status (slot_at (other newer) p) ≡ SlotStatus.Blank → Beside p newer i
  -- Both are Valid with consecutive generations, the newer's number higher and its previous checksum the older's own.
  both : (j : SlotInfo)
      → status (slot_at (other newer) p) ≡ SlotStatus.Valid j
      → i.generation ≡ j.generation + 1
      → j.meta_seq < i.meta_seq
      → i.prev_header_crc32c ≡ j.header_crc32c
      → accepts p.decoder (payload j (slot_at (other newer) p).bytes) ≡ true
      → Beside p newer i

pub record SoundPair (p : Pair) : Type 0 where
  pub slots : (index : SlotIndex) → SoundSlot (slot_at index p)
  pub newer : SlotIndex
  pub info : SlotInfo
  pub valid : status (slot_at newer p) ≡ SlotStatus.Valid info
  pub accepted : accepts p.decoder (payload info (slot_at newer p).bytes) ≡ true
  pub beside : Beside p newer info

-- A page has an index and a maximum of its own.
pub record IsPage (p : Pair) : Type 0 where
  pub index : ℕ
  pub most : ℕ
  pub decoder : p.decoder ≡ Page index most

-- The row of a store: at least one pair; pair 0 is the volume record, the others are pages. Their operators are in range, that of pair 0
-- is 0.
pub data IsRow : List Pair → Type 0 where
  row : {p : Pair} {ps : List Pair} → p.decoder ≡ Volume → Every IsPage ps → operators_in_range true (shown (p ∷ ps)) ≡ true → IsRow (p ∷ ps)

pub record Sound (ps : List Pair) : Type 0 where
  pub row : IsRow ps
  pub pairs : Every SoundPair ps
