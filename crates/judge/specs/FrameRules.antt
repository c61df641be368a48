-- The judge over frames and over records by rows (docs/FORMAT.md, "Frames", "The store verdict" and "Refusals"): what bytes stand for, what
-- is refused on both sides of each bound, and what is left in what was lent. The order of the refusals over frames is in Examples.antt.
use Rattle.std.specs.Prelude.{◌≡◌, true, false, List, [], ◌∷◌, ◌++◌, ℕ, ◌*◌, map, drop, replicate, Option, Some, None, Result, Ok, Err}
use Rattle.std.specs.Int.{w32, w64, to_le_bytes}
use Rattle.slot.specs.Table.{count}
use Rattle.slot.specs.declared.slot.HeaderFacts.{HeaderFacts}
use Rattle.slot.specs.declared.slot.SlotIndex.{SlotIndex}
use Rattle.slot.specs.declared.slot.SlotStatus.{SlotStatus}
use Rattle.judge.specs.declared.pairs.Shown.{Shown}
use Rattle.judge.specs.declared.records.PairRead.{PairRead}
use Rattle.judge.specs.declared.records.SlotRead.{SlotRead}
use Rattle.judge.specs.declared.verdict.JudgeError.{JudgeError}
use Rattle.judge.specs.declared.verdict.Judgement.{Judgement}
use Rattle.judge.specs.declared.verdict.PairVerdict.{PairVerdict}
use Rattle.judge.specs.declared.verdict.SlotVerdict.{SlotVerdict}
use Rattle.judge.specs.declared.verdict.Standing.{Standing}
use Rattle.judge.specs.Frames.{pair_from, verdict_bytes, verdict_from, judge_frames, frames_left, frames_maxima, frames_heal}
use Rattle.judge.specs.Records.{judge_records, records_left}
use Rattle.judge.specs.Table.{counted}
use Rattle.judge.specs.Values.{standing_from, choice_from, slot_verdict_from, heal_slot, heal_pair, heal_from, error_number}
use Rattle.judge.specs.Rules.{info, most}

-- ---- verdicts in bytes, and numbers

abbrev pub verdict : Standing → Option SlotIndex → SlotVerdict → SlotVerdict → PairVerdict
verdict standing winner a b = record { standing = standing; winner = winner; a = a; b = b }

pub record ValueRows : Type 0 where
  pub verdicts :
      map verdict_bytes
      (verdict Standing.Confirmed (Some SlotIndex.A) SlotVerdict.Winner SlotVerdict.Nothing
      ∷ verdict Standing.Confirmed (Some SlotIndex.B) SlotVerdict.OlderDamaged SlotVerdict.Winner
      ∷ verdict Standing.Confirmed (Some SlotIndex.A) SlotVerdict.Winner SlotVerdict.InFlight
      ∷ verdict Standing.Unconfirmed (Some SlotIndex.B) SlotVerdict.Damage SlotVerdict.Winner
      ∷ verdict Standing.Lost None SlotVerdict.Damage SlotVerdict.Damage
      ∷ verdict Standing.Refused None SlotVerdict.Damage SlotVerdict.Damage
      ∷ [])
      ≡ (0 ∷ 1 ∷ 0 ∷ 1 ∷ []) ∷ (0 ∷ 2 ∷ 2 ∷ 0 ∷ []) ∷ (0 ∷ 1 ∷ 0 ∷ 3 ∷ []) ∷ (1 ∷ 2 ∷ 4 ∷ 0 ∷ []) ∷ (2 ∷ 0 ∷ 4 ∷ 4 ∷ []) ∷ (3 ∷ 0 ∷ 4 ∷ 4 ∷ []) ∷ []
  pub verdict_read : verdict_from (1 ∷ 2 ∷ 3 ∷ 0 ∷ []) ≡ verdict Standing.Unconfirmed (Some SlotIndex.B) SlotVerdict.InFlight SlotVerdict.Winner
  -- Back from a number; from one that is none's, the last.
  pub standings :
      map standing_from (0 ∷ 1 ∷ 2 ∷ 3 ∷ 4 ∷ 255 ∷ [])
      ≡ Standing.Confirmed ∷ Standing.Unconfirmed ∷ Standing.Lost ∷ Standing.Refused ∷ Standing.Refused ∷ Standing.Refused ∷ []
  pub choices : map choice_from (0 ∷ 1 ∷ 2 ∷ 3 ∷ 255 ∷ []) ≡ None ∷ Some SlotIndex.A ∷ Some SlotIndex.B ∷ Some SlotIndex.B ∷ Some SlotIndex.B ∷ []
  pub slots :
      map slot_verdict_from (0 ∷ 1 ∷ 2 ∷ 3 ∷ 4 ∷ 5 ∷ 255 ∷ [])
      ≡ SlotVerdict.Winner ∷ SlotVerdict.Nothing ∷ SlotVerdict.OlderDamaged ∷ SlotVerdict.InFlight ∷ SlotVerdict.Damage ∷ SlotVerdict.Damage
      ∷ SlotVerdict.Damage ∷ []
  pub heal_slots : map heal_slot (None ∷ Some (7, SlotIndex.A) ∷ Some (0, SlotIndex.B) ∷ []) ≡ 0 ∷ 1 ∷ 2 ∷ []
  pub heal_pairs : map heal_pair (None ∷ Some (7, SlotIndex.A) ∷ Some (111, SlotIndex.B) ∷ []) ≡ 0 ∷ 7 ∷ 111 ∷ []
  pub heals : heal_from 0 7 ∷ heal_from 1 7 ∷ heal_from 2 111 ∷ [] ≡ None ∷ Some (7, SlotIndex.A) ∷ Some (111, SlotIndex.B) ∷ []

-- ---- frames

-- A slot's part, and a pair's frame.
abbrev pub part : (status facts generation number own previous owner : ℕ) → List ℕ
part status facts generation number own previous owner =
    status ∷ facts ∷ to_le_bytes w64 generation
    ++ (to_le_bytes w64 number ++ (to_le_bytes w32 own ++ (to_le_bytes w32 previous ++ to_le_bytes w64 owner)))

abbrev pub frame : List ℕ → List ℕ → (operator : ℕ) → List ℕ
frame a b operator = a ++ (b ++ operator ∷ [])

abbrev pub blank : List ℕ
blank = 2 ∷ replicate 33 0

-- Pair 0 with its highest bits in use, B in flight, and a page whose winner is B, of operator 15 and another owner; and with a checksum that
-- differs in its highest byte.
abbrev pub volume_by : ℕ → List ℕ
volume_by previous =
    frame
    (part 12 0 0x8000_0000_0000_0000 0x4000_0000_0000_0000 0x8000_0000 7 0x2000_0000_0000_0000)
    (part 11 2 0x8000_0000_0000_0001 0x4000_0000_0000_0001 8 previous 9)
    0

abbrev pub page : List ℕ
page = frame (part 12 0 1 0x7000_0000_0000_0000 1 2 5) (part 12 0 0x0100_0000_0000_0000 5 1 2 5) 15

-- A page of operator 15 with numbers of 64 bits, and one of operator 14.
abbrev pub numbered : List ℕ
numbered = frame (part 12 0 2 0x1_0000_0007 1 2 5) (part 11 2 1 6 1 2 5) 15

abbrev pub numbered_most : List ℕ
numbered_most = frame (part 12 0 2 most 1 2 5) (part 12 0 1 most 1 2 5) 14

pub record FrameRows : Type 0 where
  pub read :
      pair_from (12 ∷ 0 ∷ drop 2 (count 34 0) ++ (11 ∷ 2 ∷ drop 2 (count 34 34) ++ 9 ∷ []))
      ≡ record {
        a = Shown.Valid counted;
        b =
            Shown.BadPayload
            (record {
              generation = 0x2B2A_2928_2726_2524;
              meta_seq = 0x3332_3130_2F2E_2D2C;
              prev_header_crc32c = 0x3B3A_3938;
            });
        operator = 9;
      }
  pub answer : judge_frames (volume_by 0x8000_0000 ++ page) 0 8
      ≡ Ok (record { heal = Some (0, SlotIndex.B); writable = true; clean = false; refused = false; owners_differ = true })
  pub verdicts : frames_left (volume_by 0x8000_0000 ++ page) 0 (replicate 8 9) ≡ 0 ∷ 1 ∷ 0 ∷ 3 ∷ 0 ∷ 2 ∷ 1 ∷ 0 ∷ []
  pub other_answer : judge_frames (volume_by 0 ++ page) 0 8
      ≡ Ok (record { heal = None; writable = true; clean = false; refused = false; owners_differ = true })
  pub other_verdicts : frames_left (volume_by 0 ++ page) 0 (replicate 8 9) ≡ 1 ∷ 1 ∷ 0 ∷ 4 ∷ 0 ∷ 2 ∷ 1 ∷ 0 ∷ []
  -- With no verdict kept: the two highest numbers of an operator, and the slot that is healed.
  pub maxima :
      map (frames_maxima (frame blank blank 0 ++ (numbered ++ (numbered_most ++ numbered))) 0) (0 ∷ 13 ∷ 14 ∷ 15 ∷ 16 ∷ [])
      ≡ Ok (record { first = 0; second = 0 }) ∷ Ok (record { first = 0; second = 0 }) ∷ Ok (record { first = most; second = most })
      ∷ Ok (record { first = 0x1_0000_0007; second = 0x1_0000_0007 }) ∷ Ok (record { first = 0; second = 0 }) ∷ []
  pub two_maxima : frames_maxima (frame blank blank 0 ++ numbered) 1 15 ≡ Ok (record { first = 0x1_0000_0007; second = 6 })
  pub heal : frames_heal (volume_by 0x8000_0000 ++ page) 1 ≡ Ok (Some (0, SlotIndex.B))
  pub no_heal : frames_heal (volume_by 0 ++ page) 1 ≡ Ok None

-- ---- what is refused

-- The number of the refusal, 0 for none.
abbrev pub number_of : Result Judgement JudgeError → ℕ
number_of (Ok judgement) = 0
number_of (Err error) = error_number error

-- Of frames, a mark, and room for the verdicts.
abbrev pub refusal : List ℕ → (mark room : ℕ) → ℕ
refusal s mark room = number_of (judge_frames s mark room)

-- So many frames of zeros, and one with a byte at the place after so many zeros.
abbrev pub zeros : ℕ → List ℕ
zeros n = replicate (n * 69) 0

abbrev pub with_byte : (before after byte : ℕ) → List ℕ
with_byte before after byte = replicate before 0 ++ byte ∷ replicate after 0

-- Frames of each refusal in its order, but for those of the room and of the mark: no pair, 113, part of a frame, status, facts, operator.
abbrev pub refused_frames : List (List ℕ)
refused_frames = [] ∷ zeros 113 ∷ replicate 70 0 ∷ with_byte 0 68 13 ∷ with_byte 35 33 3 ∷ with_byte 68 0 1 ∷ []

abbrev pub lent : List ℕ
lent = 9 ∷ 8 ∷ 7 ∷ 6 ∷ []

pub record RefusalRows : Type 0 where
  pub pairs : map (λ n. refusal (zeros n) 0 (n * 4)) (0 ∷ 1 ∷ 2 ∷ 111 ∷ 112 ∷ 113 ∷ 224 ∷ []) ≡ 8 ∷ 0 ∷ 0 ∷ 0 ∷ 0 ∷ 45 ∷ 45 ∷ []
  pub bytes : map (λ n. refusal (replicate n 0) 0 4) (1 ∷ 68 ∷ 69 ∷ 70 ∷ 137 ∷ 138 ∷ []) ≡ 10 ∷ 10 ∷ 0 ∷ 10 ∷ 10 ∷ 9 ∷ []
  pub most_bytes : map (λ n. refusal (replicate n 0) 0 448) (7727 ∷ 7728 ∷ 7729 ∷ 7796 ∷ 7797 ∷ []) ≡ 10 ∷ 0 ∷ 45 ∷ 45 ∷ 45 ∷ []
  pub room : map (refusal (zeros 2) 0) (0 ∷ 4 ∷ 7 ∷ 8 ∷ 9 ∷ 12 ∷ []) ≡ 9 ∷ 9 ∷ 9 ∷ 0 ∷ 9 ∷ 9 ∷ []
  pub mark : map (λ m. refusal (zeros 1) m 4) (0 ∷ 1 ∷ 2 ∷ 255 ∷ []) ≡ 0 ∷ 0 ∷ 10 ∷ 10 ∷ []
  pub status_a : map (λ c. refusal (with_byte 0 68 c) 0 4) (12 ∷ 13 ∷ 255 ∷ []) ≡ 0 ∷ 10 ∷ 10 ∷ []
  pub status_b : map (λ c. refusal (with_byte 34 34 c) 0 4) (12 ∷ 13 ∷ 255 ∷ []) ≡ 0 ∷ 10 ∷ 10 ∷ []
  pub facts_a : map (λ f. refusal (with_byte 1 67 f) 0 4) (1 ∷ 2 ∷ 3 ∷ 255 ∷ []) ≡ 0 ∷ 0 ∷ 10 ∷ 10 ∷ []
  pub facts_b : map (λ f. refusal (with_byte 35 33 f) 0 4) (1 ∷ 2 ∷ 3 ∷ 255 ∷ []) ≡ 0 ∷ 0 ∷ 10 ∷ 10 ∷ []
  pub second_pair : map (λ c. refusal (with_byte 103 34 c) 0 8) (12 ∷ 13 ∷ []) ≡ 0 ∷ 10 ∷ []
  pub operator_of_0 : map (λ o. refusal (with_byte 68 0 o) 0 4) (0 ∷ 1 ∷ 15 ∷ 16 ∷ 255 ∷ []) ≡ 0 ∷ 10 ∷ 10 ∷ 10 ∷ 10 ∷ []
  pub operator_of_1 : map (λ o. refusal (with_byte 137 0 o) 0 8) (0 ∷ 1 ∷ 14 ∷ 15 ∷ 16 ∷ 255 ∷ []) ≡ 0 ∷ 0 ∷ 0 ∷ 0 ∷ 10 ∷ 10 ∷ []
  pub operator_of_2 : map (λ o. refusal (with_byte 206 0 o) 0 12) (15 ∷ 16 ∷ []) ≡ 0 ∷ 10 ∷ []
  -- What was lent is kept, else all of it is written.
  pub kept : map (λ s. frames_left s 0 lent) refused_frames ≡ replicate 6 lent
  pub kept_room : frames_left (zeros 2) 0 lent ≡ lent
  pub kept_mark : frames_left (zeros 1) 2 lent ≡ lent
  pub written : frames_left (zeros 1) 0 lent ≡ 2 ∷ 0 ∷ 4 ∷ 4 ∷ []
  -- With no verdict kept the same is refused.
  pub no_maxima :
      map (λ s. frames_maxima s 0 0) refused_frames
      ≡ Err JudgeError.Empty ∷ Err JudgeError.TooManyPairs ∷ replicate 4 (Err JudgeError.OutOfRange)
  pub no_maxima_mark : frames_maxima (zeros 1) 2 0 ≡ Err JudgeError.OutOfRange
  pub no_heal :
      map (λ s. frames_heal s 0) refused_frames
      ≡ Err JudgeError.Empty ∷ Err JudgeError.TooManyPairs ∷ replicate 4 (Err JudgeError.OutOfRange)
  pub no_heal_mark : frames_heal (zeros 1) 2 ≡ Err JudgeError.OutOfRange

-- ---- over records

-- A pair of an operator that could not be read; the volume record, and a page with a torn header, of operator 15 and another owner.
abbrev pub slot : SlotStatus → Option HeaderFacts → SlotRead
slot status facts = record { status = status; facts = facts }

abbrev pub unread : ℕ → PairRead
unread operator = record { a = slot SlotStatus.ReadError None; b = slot SlotStatus.ReadError None; operator = operator }

abbrev pub volume_read : PairRead
volume_read = record { a = slot (SlotStatus.Valid info) None; b = slot SlotStatus.Blank None; operator = 0 }

abbrev pub page_read : PairRead
page_read =
    record {
      a = slot SlotStatus.BadHeaderCrc (Some (record { stored_header_crc32c = 6; numbered = None }));
      b = slot (SlotStatus.Valid (record info { owner_generation = 6 })) None;
      operator = 15;
    }

abbrev pub record_refusal : List PairRead → (room : ℕ) → ℕ
record_refusal ps room = number_of (judge_records ps false room)

abbrev pub lent_verdicts : List PairVerdict
lent_verdicts = verdict Standing.Confirmed (Some SlotIndex.B) SlotVerdict.Nothing SlotVerdict.Winner ∷ []

pub record RecordRows : Type 0 where
  pub answer : judge_records (volume_read ∷ page_read ∷ []) false 2
      ≡ Ok (record { heal = Some (1, SlotIndex.A); writable = true; clean = false; refused = false; owners_differ = true })
  pub verdicts : records_left (volume_read ∷ page_read ∷ []) false (lent_verdicts ++ lent_verdicts)
      ≡ verdict Standing.Confirmed (Some SlotIndex.A) SlotVerdict.Winner SlotVerdict.Nothing
      ∷ verdict Standing.Confirmed (Some SlotIndex.B) SlotVerdict.InFlight SlotVerdict.Winner ∷ []
  pub marked_answer : judge_records (volume_read ∷ page_read ∷ []) true 2
      ≡ Ok (record { heal = None; writable = true; clean = true; refused = false; owners_differ = true })
  pub marked_verdicts : records_left (volume_read ∷ page_read ∷ []) true (lent_verdicts ++ lent_verdicts)
      ≡ verdict Standing.Confirmed (Some SlotIndex.A) SlotVerdict.Winner SlotVerdict.Nothing
      ∷ verdict Standing.Unconfirmed (Some SlotIndex.B) SlotVerdict.Damage SlotVerdict.Winner ∷ []
  -- Refused: the number of pairs, of verdicts, an operator; in this order.
  pub pairs : map (λ n. record_refusal (replicate n (unread 0)) n) (0 ∷ 1 ∷ 2 ∷ 111 ∷ 112 ∷ 113 ∷ 224 ∷ []) ≡ 8 ∷ 0 ∷ 0 ∷ 0 ∷ 0 ∷ 45 ∷ 45 ∷ []
  pub room : map (record_refusal (unread 0 ∷ unread 15 ∷ [])) (0 ∷ 1 ∷ 2 ∷ 3 ∷ []) ≡ 9 ∷ 9 ∷ 0 ∷ 9 ∷ []
  pub operator_of_0 : map (λ o. record_refusal (unread o ∷ []) 1) (0 ∷ 1 ∷ 15 ∷ 16 ∷ 255 ∷ []) ≡ 0 ∷ 10 ∷ 10 ∷ 10 ∷ 10 ∷ []
  pub operator_of_1 : map (λ o. record_refusal (unread 0 ∷ unread o ∷ []) 2) (0 ∷ 1 ∷ 14 ∷ 15 ∷ 16 ∷ 255 ∷ []) ≡ 0 ∷ 0 ∷ 0 ∷ 0 ∷ 10 ∷ 10 ∷ []
  pub pairs_first : map (record_refusal []) (0 ∷ 1 ∷ []) ≡ 8 ∷ 8 ∷ []
  pub limit_first : record_refusal (replicate 113 (unread 1)) 112 ≡ 45
  pub room_first : record_refusal (unread 1 ∷ []) 2 ≡ 9
  -- What was lent is kept.
  pub kept :
      map (λ ps. records_left ps false lent_verdicts)
      ([] ∷ replicate 113 (unread 0) ∷ (unread 0 ∷ unread 0 ∷ []) ∷ (unread 1 ∷ []) ∷ (unread 16 ∷ []) ∷ [])
      ≡ replicate 5 lent_verdicts
  pub written : records_left (unread 0 ∷ []) false lent_verdicts ≡ verdict Standing.Lost None SlotVerdict.Damage SlotVerdict.Damage ∷ []
