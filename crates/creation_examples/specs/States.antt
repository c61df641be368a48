-- What is expected of the store at each step of its creation and after each cut. The values follow from docs/FORMAT.md, "Slot status", "Header
-- facts", "The store verdict" and "The winner's payload".
use Rattle.std.specs.Prelude.{◌≡◌, Bool, false, List, [], ◌∷◌, ◌++◌, ℕ, replicate, Option, None, Ok}
use Rattle.slot.specs.declared.slot.SlotIndex.{SlotIndex}
use Rattle.judge.specs.Frames.{judge_frames, frames_left}
use Rattle.judge.specs.Same.{mark}
use Rattle.judge.specs.declared.records.SlotRead.{SlotRead}
use Rattle.judge.specs.declared.records.PairRead.{PairRead}
use Rattle.judge.specs.declared.verdict.Judgement.{Judgement}
use Rattle.cut.specs.Store.{Pair, reads, frames}
use Rattle.cut.specs.Cut.{after}
use Rattle.cut_examples.specs.Stores.{volume_record, page_record}
use Rattle.cut_examples.specs.Computed.{AllRead, writable_store, blank_read, bad_magic, torn_header, torn_payload, valid_read}
use Rattle.creation_examples.specs.Stores.{blank_store, page_1_store, pages_store, made_store}
use Rattle.creation_examples.specs.Writes.{page_0_write, volume_write}

-- ---- what is computed

-- The judgement on a store that may not be written, whatever the mark: none is clean without a volume record.
abbrev pub unwritable_store : Option (ℕ × SlotIndex) → Bool → Judgement
unwritable_store heal clean = record { heal = heal; writable = false; clean = false; refused = false; owners_differ = false }

-- The pairs with their slots A read so; each slot B is Blank.
abbrev pub row : (volume page_0 page_1 : SlotRead) → List PairRead
row volume page_0 page_1 =
    record { a = volume; b = blank_read; operator = 0 }
    ∷ record { a = page_0; b = blank_read; operator = 0 }
    ∷ record { a = page_1; b = blank_read; operator = 1 }
    ∷ []

-- The slots are read so; under each mark the judge answers so, and under both it writes these verdicts, four bytes a pair: standing, winner,
-- A, B.
pub record StateIs (ps : List Pair) (volume page_0 page_1 : SlotRead) (answer : Bool → Judgement) (verdict : List ℕ) : Type 0 where
  pub read : reads ps ≡ row volume page_0 page_1
  pub judged : (clean : Bool) → judge_frames (frames ps) (mark clean) 12 ≡ Ok (answer clean)
  pub written : (clean : Bool) → frames_left (frames ps) (mark clean) (replicate 12 0) ≡ verdict

-- The verdict on a pair with no Valid slot, Lost and its slots Damage, and on one with A of generation 1 beside a Blank B, Confirmed.
abbrev pub lost : List ℕ
lost = 2 ∷ 0 ∷ 4 ∷ 4 ∷ []

abbrev pub confirmed : List ℕ
confirmed = 0 ∷ 1 ∷ 0 ∷ 1 ∷ []

-- ---- how the written slots are read

abbrev pub volume_read : SlotRead
volume_read = valid_read 1 2 0x5bfe_0d29 0 64

abbrev pub page_0_read : SlotRead
page_0_read = valid_read 1 1 0x1e65_e029 0 24

abbrev pub page_1_read : SlotRead
page_1_read = valid_read 1 1 0x57c1_8baa 0 24

-- With the header torn, and with the payload.
abbrev pub volume_header_torn : SlotRead
volume_header_torn = torn_header 0x5bfe_0d29

abbrev pub volume_payload_torn : SlotRead
volume_payload_torn = torn_payload 1 2 0x5bfe_0d29 0

abbrev pub page_0_header_torn : SlotRead
page_0_header_torn = torn_header 0x1e65_e029

abbrev pub page_0_payload_torn : SlotRead
page_0_payload_torn = torn_payload 1 1 0x1e65_e029 0

-- What is read back at the end.
abbrev pub records : List (List ℕ)
records = volume_record false ∷ page_record 0 1 ∷ page_record 1 0 ∷ []

-- ---- the states

pub record PageStates : Type 0 where
  -- Nothing is written.
  pub blank : StateIs blank_store blank_read blank_read blank_read (unwritable_store None) (lost ++ lost ++ lost)
  -- Page 1 is finished.
  pub page_1 : StateIs page_1_store blank_read blank_read page_1_read (unwritable_store None) (lost ++ lost ++ confirmed)
  -- Page 0 is cut: there is no winner that its slot could follow, so it is not healed. After 3 bytes the magic is broken, after 64 the header
  -- fails its checksum and after 140 the payload.
  pub page_0_3 : StateIs (after (page_0_write 3)) blank_read bad_magic page_1_read (unwritable_store None) (lost ++ lost ++ confirmed)
  pub page_0_64 : StateIs (after (page_0_write 64)) blank_read page_0_header_torn page_1_read (unwritable_store None) (lost ++ lost ++ confirmed)
  pub page_0_140 : StateIs (after (page_0_write 140)) blank_read page_0_payload_torn page_1_read (unwritable_store None) (lost ++ lost ++ confirmed)
  -- Page 0 is finished.
  pub pages : StateIs pages_store blank_read page_0_read page_1_read (unwritable_store None) (lost ++ confirmed ++ confirmed)

pub record VolumeStates : Type 0 where
  -- The volume record is cut, and is not whole.
  pub volume_3 : StateIs (after (volume_write 3)) bad_magic page_0_read page_1_read (unwritable_store None) (lost ++ confirmed ++ confirmed)
  pub volume_64 : StateIs (after (volume_write 64)) volume_header_torn page_0_read page_1_read (unwritable_store None) (lost ++ confirmed ++ confirmed)
  pub volume_191 : StateIs (after (volume_write 191)) volume_payload_torn page_0_read page_1_read (unwritable_store None) (lost ++ confirmed ++ confirmed)
  -- It stands whole: the store may be written, and each record is read back.
  pub volume_192 : StateIs (after (volume_write 192)) volume_read page_0_read page_1_read (writable_store None) (confirmed ++ confirmed ++ confirmed)
  pub back_192 : AllRead (after (volume_write 192)) records
  -- It is finished.
  pub made : StateIs made_store volume_read page_0_read page_1_read (writable_store None) (confirmed ++ confirmed ++ confirmed)
  pub back : AllRead made_store records
