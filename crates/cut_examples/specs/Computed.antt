-- What is judged of a store and read back, after a cut (docs/FORMAT.md, "The sound store and the cut") and in any other state, and how a
-- slot is read.
use Rattle.std.specs.Prelude.{◌≡◌, Bool, true, false, List, [], ◌∷◌, ℕ, replicate, Option, Some, None, Ok}
use Rattle.slot.specs.declared.slot.SlotIndex.{SlotIndex}
use Rattle.slot.specs.declared.slot.SlotStatus.{SlotStatus}
use Rattle.slot.specs.declared.slot.HeaderFacts.{HeaderFacts}
use Rattle.judge.specs.Frames.{judge_frames, frames_left}
use Rattle.judge.specs.Same.{mark}
use Rattle.judge.specs.declared.records.SlotRead.{SlotRead}
use Rattle.judge.specs.declared.verdict.Judgement.{Judgement}
use Rattle.cut.specs.Store.{Slot, Pair, slot_at, accepts, frames, slot_read}
use Rattle.cut.specs.Cut.{Write, left, with_bytes, after, handed, PayloadIs}

-- ---- what is computed

-- Every pair reads back a record, and its decoder accepts it.
pub data AllRead : List Pair → List (List ℕ) → Type 0 where
  none : AllRead [] []
  more : {p : Pair} {ps : List Pair} {r : List ℕ} {rs : List (List ℕ)}
      → PayloadIs p r → accepts p.decoder r ≡ true → AllRead ps rs → AllRead (p ∷ ps) (r ∷ rs)

-- The judgement on a store that may be written, whose winners have one owner.
abbrev pub writable_store : Option (ℕ × SlotIndex) → Bool → Judgement
writable_store heal clean = record { heal = heal; writable = true; clean = clean; refused = false; owners_differ = false }

-- Of three pairs one slot is read so; the judge, handed this mark, answers this heal and this clean mark of such a store, and writes these
-- verdicts, four bytes a pair: standing, winner, A, B; and these records are read back.
pub record JudgedAs (ps : List Pair) (s : Slot) (given : Bool) (slot : SlotRead) (heal : Option (ℕ × SlotIndex)) (clean : Bool) (verdict : List ℕ) (records : List (List ℕ)) : Type 0 where
  pub read : slot_read s ≡ slot
  pub answer : judge_frames (frames ps) (mark given) 12 ≡ Ok (writable_store heal clean)
  pub written : frames_left (frames ps) (mark given) (replicate 12 0) ≡ verdict
  pub back : AllRead ps records

-- After the cut of w: the slot is the written one, and the mark is the one that is handed then.
abbrev pub Computed : Write → SlotRead → Option (ℕ × SlotIndex) → Bool → List ℕ → List (List ℕ) → Type 0
Computed w slot heal clean verdict records =
    JudgedAs (after w) (with_bytes (left w) (slot_at w.index w.pair)) (handed w) slot heal clean verdict records

-- ---- how a slot is read

abbrev pub blank_read : SlotRead
blank_read = record { status = SlotStatus.Blank; facts = None }

abbrev pub bad_magic : SlotRead
bad_magic = record { status = SlotStatus.BadMagic; facts = None }

-- A header that fails its checksum, with the checksum stored in it.
abbrev pub torn_header : (own : ℕ) → SlotRead
torn_header own = record { status = SlotStatus.BadHeaderCrc; facts = Some (record { stored_header_crc32c = own; numbered = None }) }

-- Of a header that passes: its own checksum and the previous one.
abbrev pub facts_with : (generation number own prev : ℕ) → HeaderFacts
facts_with generation number own prev =
    record {
      stored_header_crc32c = own;
      numbered = Some (record { generation = generation; meta_seq = number; prev_header_crc32c = prev });
    }

-- A payload that fails its checksum.
abbrev pub torn_payload : (generation number own prev : ℕ) → SlotRead
torn_payload generation number own prev = record { status = SlotStatus.BadPayloadCrc; facts = Some (facts_with generation number own prev) }

-- A Valid slot, with a payload of some length.
abbrev pub valid_read : (generation number own prev length : ℕ) → SlotRead
valid_read generation number own prev length =
    record {
      status =
          SlotStatus.Valid
          (record {
            generation = generation;
            owner_generation = 1;
            header_crc32c = own;
            prev_header_crc32c = prev;
            ro_compat_flags = 0;
            compat_flags = 0;
            meta_seq = number;
            payload_start = 128;
            payload_len = length;
          });
      facts = Some (facts_with generation number own prev);
    }
