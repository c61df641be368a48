-- The pairs by the numbers of their statuses (docs/FORMAT.md, "Pairs"), computed.
use Rattle.std.specs.Prelude.{◌≡◌, List, [], ◌∷◌, ℕ, map}
use Rattle.slot.specs.Numbers.{choice_number}
use Rattle.slot.specs.Status.{code}
use Rattle.slot.specs.declared.slot.SlotIndex.{SlotIndex}
use Rattle.slot.specs.declared.slot.SlotStatus.{SlotStatus}
use Rattle.pair.specs.declared.pair.Winner.{Winner}
use Rattle.pair.specs.declared.pair.PairReport.{PairReport}
use Rattle.pair.specs.Pair.{decide, plain, next_write}
use Rattle.pair.specs.Numbers.{winner_number, winner_slot, report_numbers}

-- A slot of this generation, with its own header's checksum and the one that it names as the last one's.
abbrev pub version : ℕ → ℕ → ℕ → SlotStatus
version generation own last =
    SlotStatus.Valid (record {
      generation = generation;
      owner_generation = 0;
      header_crc32c = own;
      prev_header_crc32c = last;
      ro_compat_flags = 0;
      compat_flags = 0;
      meta_seq = 0;
      payload_start = 0;
      payload_len = 0;
    })

-- The statuses 0 to 11.
abbrev pub not_valid : List SlotStatus
not_valid =
    SlotStatus.ReadError
    ∷ SlotStatus.BadLength
    ∷ SlotStatus.Blank
    ∷ SlotStatus.BadMagic
    ∷ SlotStatus.BadHeaderCrc
    ∷ SlotStatus.UnsupportedVersion 3
    ∷ SlotStatus.Incompatible 1
    ∷ SlotStatus.Malformed
    ∷ SlotStatus.Foreign
    ∷ SlotStatus.WrongObject
    ∷ SlotStatus.Misplaced
    ∷ SlotStatus.BadPayloadCrc
    ∷ []

abbrev pub standing : PairReport → ℕ
standing r = winner_number r.winner

-- A Valid slot beside each: Confirmed beside 2, 4 and 11, Refused beside 5 and 6, else Unconfirmed, as A and as B.
abbrev pub BesideValid : Type 0
BesideValid =
    (map code not_valid ≡ 0 ∷ 1 ∷ 2 ∷ 3 ∷ 4 ∷ 5 ∷ 6 ∷ 7 ∷ 8 ∷ 9 ∷ 10 ∷ 11 ∷ [])
    × (map (λ s. standing (decide (version 1 7 0) s)) not_valid ≡ 1 ∷ 1 ∷ 0 ∷ 1 ∷ 0 ∷ 3 ∷ 3 ∷ 1 ∷ 1 ∷ 1 ∷ 1 ∷ 0 ∷ [])
    × (map (λ s. standing (decide s (version 1 7 0))) not_valid ≡ 1 ∷ 1 ∷ 0 ∷ 1 ∷ 0 ∷ 3 ∷ 3 ∷ 1 ∷ 1 ∷ 1 ∷ 1 ∷ 0 ∷ [])
    × (map (λ s. winner_slot (decide (version 1 7 0) s).winner) not_valid ≡ 1 ∷ 1 ∷ 1 ∷ 1 ∷ 1 ∷ 0 ∷ 0 ∷ 1 ∷ 1 ∷ 1 ∷ 1 ∷ 1 ∷ [])
    × (map (λ s. winner_slot (decide s (version 1 7 0)).winner) not_valid ≡ 2 ∷ 2 ∷ 2 ∷ 2 ∷ 2 ∷ 0 ∷ 0 ∷ 2 ∷ 2 ∷ 2 ∷ 2 ∷ 2 ∷ [])

-- Blank beside each: Empty beside another Blank, Refused beside 5 and 6, else Lost.
abbrev pub NoneValid : Type 0
NoneValid =
    (map (λ s. standing (decide SlotStatus.Blank s)) not_valid ≡ 2 ∷ 2 ∷ 4 ∷ 2 ∷ 2 ∷ 3 ∷ 3 ∷ 2 ∷ 2 ∷ 2 ∷ 2 ∷ 2 ∷ [])
    × (map (λ s. standing (decide s SlotStatus.Blank)) not_valid ≡ 2 ∷ 2 ∷ 4 ∷ 2 ∷ 2 ∷ 3 ∷ 3 ∷ 2 ∷ 2 ∷ 2 ∷ 2 ∷ 2 ∷ [])

-- Of two Valid slots: both codes, standing and slot of the winner, gap, chain break, next write. One generation is a Fork; the higher one
-- wins; a gap where it is not the next one; else a break where it does not name the older header's checksum.
abbrev pub TwoValid : Type 0
TwoValid =
    (report_numbers (decide (version 2 7 8) (version 2 8 7)) ≡ 12 ∷ 12 ∷ 5 ∷ 0 ∷ 0 ∷ 0 ∷ 0 ∷ [])
    × (report_numbers (decide (version 2 7 8) (version 1 8 0)) ≡ 12 ∷ 12 ∷ 0 ∷ 1 ∷ 0 ∷ 0 ∷ 2 ∷ [])
    × (report_numbers (decide (version 1 8 0) (version 2 7 8)) ≡ 12 ∷ 12 ∷ 0 ∷ 2 ∷ 0 ∷ 0 ∷ 1 ∷ [])
    × (report_numbers (decide (version 2 7 9) (version 1 8 0)) ≡ 12 ∷ 12 ∷ 0 ∷ 1 ∷ 0 ∷ 1 ∷ 2 ∷ [])
    × (report_numbers (decide (version 1 8 0) (version 3 7 8)) ≡ 12 ∷ 12 ∷ 0 ∷ 2 ∷ 1 ∷ 0 ∷ 1 ∷ [])
    × (report_numbers (decide (version 3 7 9) (version 1 8 0)) ≡ 12 ∷ 12 ∷ 0 ∷ 1 ∷ 1 ∷ 0 ∷ 2 ∷ [])

abbrev pub winners : List Winner
winners =
    Winner.Confirmed SlotIndex.A
    ∷ Winner.Confirmed SlotIndex.B
    ∷ Winner.Unconfirmed SlotIndex.A
    ∷ Winner.Unconfirmed SlotIndex.B
    ∷ Winner.Lost
    ∷ Winner.Refused
    ∷ Winner.Empty
    ∷ Winner.Fork
    ∷ []

-- The number of each winner, its slot, and the slot of the next write.
abbrev pub WinnerNumbers : Type 0
WinnerNumbers =
    (map winner_number winners ≡ 0 ∷ 0 ∷ 1 ∷ 1 ∷ 2 ∷ 3 ∷ 4 ∷ 5 ∷ [])
    × (map winner_slot winners ≡ 1 ∷ 2 ∷ 1 ∷ 2 ∷ 0 ∷ 0 ∷ 0 ∷ 0 ∷ [])
    × (map (λ w. choice_number (next_write (plain SlotStatus.Blank SlotStatus.Blank w))) winners ≡ 2 ∷ 1 ∷ 2 ∷ 1 ∷ 0 ∷ 0 ∷ 1 ∷ 0 ∷ [])
