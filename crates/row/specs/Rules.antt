-- The judge over a row by rows (docs/FORMAT.md, "Frames" and "The store verdict"): the records that frames stand for, the bounds of what is
-- lent, and what is left in it.
use Rattle.std.specs.Prelude.{◌≡◌, true, false, List, [], ◌∷◌, ◌++◌, ℕ, map, replicate, Option, Some, None}
use Rattle.slot.specs.declared.slot.HeaderFacts.{HeaderFacts}
use Rattle.slot.specs.declared.slot.SlotIndex.{SlotIndex}
use Rattle.slot.specs.declared.slot.SlotStatus.{SlotStatus}
use Rattle.judge.specs.declared.records.PairRead.{PairRead}
use Rattle.judge.specs.declared.verdict.PairVerdict.{PairVerdict}
use Rattle.judge.specs.declared.verdict.SlotVerdict.{SlotVerdict}
use Rattle.judge.specs.declared.verdict.Standing.{Standing}
use Rattle.judge.specs.FrameRules.{part, frame, blank, zeros, with_byte, number_of, verdict, slot, unread}
use Rattle.row.specs.Judged.{judge_row, records_left, verdicts_left, bytes_left}

-- ---- the record of a frame

-- The record that is left of one frame.
abbrev pub record_of : List ℕ → List PairRead
record_of s = records_left s 1 (unread 7 ∷ []) 1

-- What the slot with these facts is read as, beside one that could not be read; its fields count up.
abbrev pub of_facts : ℕ → List PairRead
of_facts facts = record_of (frame (part 4 facts 1 2 3 4 5) (part 0 0 0 0 0 0 0) 0)

abbrev pub read_as : Option HeaderFacts → List PairRead
read_as facts =
    record {
      a = slot SlotStatus.BadHeaderCrc facts;
      b = slot SlotStatus.ReadError None;
      operator = 0;
    }
    ∷ []

abbrev pub of_code : ℕ → List PairRead
of_code code = record_of (frame (part 0 0 0 0 0 0 0) (part code 0 0 0 0 0 0) 15)

abbrev pub of_status : SlotStatus → List PairRead
of_status status = record { a = slot SlotStatus.ReadError None; b = slot status None; operator = 15 } ∷ []

pub record RecordRows : Type 0 where
  pub whole :
      record_of (frame (part 12 1 1 2 3 4 5) (part 11 2 0x1_0000_0006 0x1_0000_0007 8 9 10) 15)
      ≡ record {
        a =
            slot
            (SlotStatus.Valid
            (record {
              generation = 1;
              owner_generation = 5;
              header_crc32c = 3;
              prev_header_crc32c = 4;
              ro_compat_flags = 0;
              compat_flags = 0;
              meta_seq = 2;
              payload_start = 0;
              payload_len = 0;
            }))
            (Some (record { stored_header_crc32c = 3; numbered = None }));
        b =
            slot SlotStatus.BadPayloadCrc
            (Some
            (record {
              stored_header_crc32c = 8;
              numbered =
                  Some
                  (record {
                    generation = 0x1_0000_0006;
                    meta_seq = 0x1_0000_0007;
                    prev_header_crc32c = 9;
                  });
            }));
        operator = 15;
      }
      ∷ []
  -- By the facts, also by a number that is out of range.
  pub no_facts : of_facts 0 ≡ read_as None
  pub checksum : of_facts 1 ≡ read_as (Some (record { stored_header_crc32c = 3; numbered = None }))
  pub numbers :
      of_facts 2
      ≡ read_as (Some (record { stored_header_crc32c = 3; numbered = Some (record { generation = 1; meta_seq = 2; prev_header_crc32c = 4 }) }))
  pub facts_3 : of_facts 3 ≡ read_as None
  -- By the status; a number that is none stands for a slot that was not read.
  pub status_0 : of_code 0 ≡ of_status SlotStatus.ReadError
  pub status_2 : of_code 2 ≡ of_status SlotStatus.Blank
  pub status_11 : of_code 11 ≡ of_status SlotStatus.BadPayloadCrc
  pub status_13 : of_code 13 ≡ of_status SlotStatus.ReadError
  pub status_255 : of_code 255 ≡ of_status SlotStatus.ReadError

-- ---- what is refused

-- The number of the refusal, 0 for none, of frames where so many verdicts are to be used, and so many pairs and verdicts are lent.
abbrev pub refusal : List ℕ → (room pairs verdicts : ℕ) → ℕ
refusal s room pairs verdicts = number_of (judge_row s false room pairs verdicts)

pub record RefusalRows : Type 0 where
  pub pairs_lent : map (λ n. refusal (zeros 2) 2 n 2) (0 ∷ 1 ∷ 2 ∷ 3 ∷ []) ≡ 10 ∷ 10 ∷ 0 ∷ 0 ∷ []
  pub verdicts_lent : map (refusal (zeros 2) 2 2) (0 ∷ 1 ∷ 2 ∷ 3 ∷ []) ≡ 10 ∷ 10 ∷ 0 ∷ 0 ∷ []
  pub room : map (λ n. refusal (zeros 2) n 2 3) (0 ∷ 1 ∷ 2 ∷ 3 ∷ 4 ∷ []) ≡ 9 ∷ 9 ∷ 0 ∷ 9 ∷ 10 ∷ []
  pub bytes : map (λ n. refusal (replicate n 0) 1 2 1) (1 ∷ 68 ∷ 69 ∷ 70 ∷ 137 ∷ []) ≡ 10 ∷ 10 ∷ 0 ∷ 10 ∷ 10 ∷ []
  pub pairs : map (λ n. refusal (zeros n) n n n) (0 ∷ 1 ∷ 112 ∷ 113 ∷ []) ≡ 8 ∷ 0 ∷ 0 ∷ 45 ∷ []
  pub operator : map (λ o. refusal (with_byte 137 0 o) 2 2 2) (0 ∷ 15 ∷ 16 ∷ []) ≡ 0 ∷ 0 ∷ 10 ∷ []
  pub operator_of_0 : map (λ o. refusal (with_byte 68 0 o) 1 1 1) (0 ∷ 1 ∷ []) ≡ 0 ∷ 10 ∷ []
  -- Statuses and facts out of range are not refused.
  pub status : refusal (with_byte 0 68 13) 1 1 1 ≡ 0
  pub facts : refusal (with_byte 1 67 3) 1 1 1 ≡ 0
  -- What was lent is tested before the judge tests.
  pub lent_first : refusal [] 1 0 0 ∷ refusal (zeros 113) 113 112 113 ∷ refusal (zeros 1) 2 1 1 ∷ [] ≡ 10 ∷ 10 ∷ 10 ∷ []

-- ---- what is left

-- Verdicts that are lent, and the judge's on a pair that could not be read, and on a volume record in its first generation.
abbrev pub kept : PairVerdict
kept = verdict Standing.Confirmed (Some SlotIndex.B) SlotVerdict.Nothing SlotVerdict.Winner

abbrev pub lost : PairVerdict
lost = verdict Standing.Lost None SlotVerdict.Damage SlotVerdict.Damage

abbrev pub first : PairVerdict
first = verdict Standing.Confirmed (Some SlotIndex.A) SlotVerdict.Winner SlotVerdict.Nothing

abbrev pub volume : List ℕ
volume = frame (part 12 0 1 1 10 0 5) blank 0

-- A page with a torn header, and its verdict without the mark and with it.
abbrev pub page : List ℕ
page = frame (part 4 1 0 0 7 0 0) (part 12 0 2 2 20 10 5) 1

abbrev pub in_flight : PairVerdict
in_flight = verdict Standing.Confirmed (Some SlotIndex.B) SlotVerdict.InFlight SlotVerdict.Winner

abbrev pub damage : PairVerdict
damage = verdict Standing.Unconfirmed (Some SlotIndex.B) SlotVerdict.Damage SlotVerdict.Winner

pub record LeftRows : Type 0 where
  -- The verdicts of the pairs, and what is behind the room.
  pub verdicts : verdicts_left (volume ++ page) false 2 2 (kept ∷ kept ∷ kept ∷ []) ≡ first ∷ in_flight ∷ kept ∷ []
  pub marked : verdicts_left (volume ++ page) true 2 2 (kept ∷ kept ∷ []) ≡ first ∷ damage ∷ []
  -- At a refusal all: of what is lent, of the room, of an operator.
  pub verdicts_no_row : verdicts_left (zeros 2) false 2 1 (kept ∷ kept ∷ []) ≡ kept ∷ kept ∷ []
  pub verdicts_room : verdicts_left (zeros 2) false 1 2 (kept ∷ kept ∷ []) ≡ kept ∷ kept ∷ []
  pub verdicts_operator : verdicts_left (with_byte 68 0 1) false 1 1 (kept ∷ kept ∷ []) ≡ kept ∷ kept ∷ []
  -- The records, and the pairs behind them; all of these where they are no row, and none where the judge refuses them.
  pub pairs : records_left (zeros 2) 2 (replicate 3 (unread 7)) 2 ≡ unread 0 ∷ unread 0 ∷ unread 7 ∷ []
  pub pairs_no_row : records_left (zeros 2) 2 (replicate 3 (unread 7)) 1 ≡ replicate 3 (unread 7)
  pub pairs_part : records_left (replicate 70 0) 1 (replicate 3 (unread 7)) 1 ≡ replicate 3 (unread 7)
  pub pairs_room : records_left (zeros 2) 1 (replicate 3 (unread 7)) 2 ≡ unread 0 ∷ unread 0 ∷ unread 7 ∷ []
  -- Bytes of verdicts, where as many are lent.
  pub bytes : bytes_left (first ∷ lost ∷ []) (replicate 8 9) ≡ 0 ∷ 1 ∷ 0 ∷ 1 ∷ 2 ∷ 0 ∷ 4 ∷ 4 ∷ []
  pub bytes_fewer : bytes_left (first ∷ lost ∷ []) (replicate 7 9) ≡ replicate 7 9
  pub bytes_more : bytes_left (first ∷ lost ∷ []) (replicate 9 9) ≡ replicate 9 9
  pub bytes_of_one : bytes_left (first ∷ lost ∷ []) (replicate 4 9) ≡ replicate 4 9
  pub no_bytes : bytes_left [] [] ≡ []
