-- A frame's layout and the numbers of the judge's enums, spelled out (docs/FORMAT.md, "Frames", "The store verdict" and "Refusals"): bytes
-- that count up show each field's place and width.
use Rattle.std.specs.Prelude.{◌≡◌, ℕ, [], ◌∷◌, map}
use Rattle.slot.specs.Table.{count}
use Rattle.slot.specs.declared.slot.NumberedHeader.{NumberedHeader}
use Rattle.judge.specs.declared.pairs.Version.{Version}
use Rattle.judge.specs.declared.pairs.Shown.{Shown}
use Rattle.judge.specs.declared.verdict.SlotVerdict.{SlotVerdict}
use Rattle.judge.specs.declared.verdict.Standing.{Standing}
use Rattle.judge.specs.declared.verdict.JudgeError.{JudgeError}
use Rattle.judge.specs.Part.{part_at, part_bytes, part_shown}
use Rattle.judge.specs.Values.{standing_number, slot_verdict_number, error_number}

-- What 34 bytes stand for that count up from 0, and from 34.
abbrev pub counted : Version
counted =
    record {
      generation = 0x0908_0706_0504_0302;
      meta_seq = 0x1110_0F0E_0D0C_0B0A;
      header_crc32c = 0x1514_1312;
      prev_header_crc32c = 0x1918_1716;
      owner_generation = 0x2120_1F1E_1D1C_1B1A;
    }

abbrev pub counted_on : Version
counted_on =
    record {
      generation = 0x2B2A_2928_2726_2524;
      meta_seq = 0x3332_3130_2F2E_2D2C;
      header_crc32c = 0x3736_3534;
      prev_header_crc32c = 0x3B3A_3938;
      owner_generation = 0x4342_4140_3F3E_3D3C;
    }

-- As much of the first as a header shows without its payload.
abbrev pub counted_header : NumberedHeader
counted_header = record { generation = 0x0908_0706_0504_0302; meta_seq = 0x1110_0F0E_0D0C_0B0A; prev_header_crc32c = 0x1918_1716 }

-- What each status shows beside facts 2.
abbrev pub shown_by : ℕ → Shown
shown_by c = part_shown (record { code = c; facts = 2; version = counted })

pub record Table : Type 0 where
  pub part_read : part_at (count 34 0) 0 ≡ record { code = 0; facts = 1; version = counted }
  pub part_written : part_bytes (record { code = 0; facts = 1; version = counted }) ≡ count 34 0
  pub second_read : part_at (count 68 0) 34 ≡ record { code = 34; facts = 35; version = counted_on }
  pub standings : map standing_number (Standing.Confirmed ∷ Standing.Unconfirmed ∷ Standing.Lost ∷ Standing.Refused ∷ []) ≡ 0 ∷ 1 ∷ 2 ∷ 3 ∷ []
  pub verdicts :
      map slot_verdict_number (SlotVerdict.Winner ∷ SlotVerdict.Nothing ∷ SlotVerdict.OlderDamaged ∷ SlotVerdict.InFlight ∷ SlotVerdict.Damage ∷ [])
      ≡ 0 ∷ 1 ∷ 2 ∷ 3 ∷ 4 ∷ []
  pub errors : map error_number (JudgeError.Empty ∷ JudgeError.OutputLength ∷ JudgeError.OutOfRange ∷ JudgeError.TooManyPairs ∷ []) ≡ 8 ∷ 9 ∷ 10 ∷ 45 ∷ []
  pub shown :
      map shown_by (0 ∷ 1 ∷ 2 ∷ 3 ∷ 4 ∷ 5 ∷ 6 ∷ 7 ∷ 8 ∷ 9 ∷ 10 ∷ 11 ∷ 12 ∷ [])
      ≡ Shown.Other ∷ Shown.Other ∷ Shown.Blank ∷ Shown.Other ∷ Shown.BadHeader 0x1514_1312 ∷ Shown.Unsupported ∷ Shown.Unsupported ∷ Shown.Other
      ∷ Shown.Other ∷ Shown.Other ∷ Shown.Other ∷ Shown.BadPayload counted_header ∷ Shown.Valid counted ∷ []
