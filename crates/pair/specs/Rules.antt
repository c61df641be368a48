-- The rules of a pair by rows, spelled on both sides of each bound (docs/FORMAT.md, "Pairs" and "The winner's payload"). Beside a Valid
-- slot and beside a Blank one the answers are in Table.
use Rattle.std.specs.Prelude.{◌≡◌, Bool, true, false, List, [], ◌∷◌, ◌++◌, ℕ, map, replicate, Option, Some, None}
use Rattle.std.specs.Borrow.{Bor}
use Rattle.codec.specs.Place.{Part}
use Rattle.slot.specs.Rules.{highest_32, highest_64, good, expected, slot_of}
use Rattle.slot.specs.declared.header.Header.{Header}
use Rattle.slot.specs.declared.slot.Expect.{Expect}
use Rattle.slot.specs.declared.slot.SlotIndex.{SlotIndex}
use Rattle.slot.specs.declared.slot.SlotInfo.{SlotInfo}
use Rattle.slot.specs.declared.slot.SlotStatus.{SlotStatus}
use Rattle.pair.specs.declared.pair.Winner.{Winner}
use Rattle.pair.specs.declared.pair.PairReport.{PairReport}
use Rattle.pair.specs.Pair.{explains_survivor, decide, status, winner_info}
use Rattle.pair.specs.Numbers.{report_numbers, info_numbers}
use Rattle.pair.specs.Winner.{read_pair, WinnerPart, of_slot}
use Rattle.pair.specs.Table.{version, not_valid, standing}

-- ---- no Valid slot

-- The standings beside each of the statuses 0 to 11.
abbrev pub lost_row : List ℕ
lost_row = 2 ∷ 2 ∷ 2 ∷ 2 ∷ 2 ∷ 3 ∷ 3 ∷ 2 ∷ 2 ∷ 2 ∷ 2 ∷ 2 ∷ []

abbrev pub blank_row : List ℕ
blank_row = 2 ∷ 2 ∷ 4 ∷ 2 ∷ 2 ∷ 3 ∷ 3 ∷ 2 ∷ 2 ∷ 2 ∷ 2 ∷ 2 ∷ []

abbrev pub refused_row : List ℕ
refused_row = replicate 12 3

-- Each two of the statuses 0 to 11: Refused with a 5 or a 6, Empty for two Blank, else Lost. And what leaves a Valid slot Confirmed.
pub record StatusRows : Type 0 where
  pub each_two :
      map (λ a. map (λ b. standing (decide a b)) not_valid) not_valid
      ≡ lost_row ∷ lost_row ∷ blank_row ∷ lost_row ∷ lost_row ∷ refused_row ∷ refused_row ∷ lost_row ∷ lost_row ∷ lost_row ∷ lost_row ∷ lost_row ∷ []
  pub explained :
      map explains_survivor (not_valid ++ version 1 7 0 ∷ [])
      ≡ false ∷ false ∷ true ∷ false ∷ true ∷ false ∷ false ∷ false ∷ false ∷ false ∷ false ∷ true ∷ false ∷ []

-- ---- two Valid slots

-- The numbers of a report on two Valid slots: Fork, or a winner, with gap and chain break.
abbrev pub fork : List ℕ
fork = 12 ∷ 12 ∷ 5 ∷ 0 ∷ 0 ∷ 0 ∷ 0 ∷ []

abbrev pub won_a : (gap chain_break : ℕ) → List ℕ
won_a gap chain_break = 12 ∷ 12 ∷ 0 ∷ 1 ∷ gap ∷ chain_break ∷ 2 ∷ []

abbrev pub won_b : (gap chain_break : ℕ) → List ℕ
won_b gap chain_break = 12 ∷ 12 ∷ 0 ∷ 2 ∷ gap ∷ chain_break ∷ 1 ∷ []

-- A and B by their generations; each names the other's checksum as its previous one.
abbrev pub two : (a b : ℕ) → List ℕ
two a b = report_numbers (decide (version a 7 8) (version b 8 7))

pub record GenerationRows : Type 0 where
  pub equal : two 1 1 ∷ two 0x1_0000_0000 0x1_0000_0000 ∷ two highest_64 highest_64 ∷ [] ≡ fork ∷ fork ∷ fork ∷ []
  pub next_a : two 2 1 ∷ two 0x1_0000_0000 0xFFFF_FFFF ∷ two highest_64 0xFFFF_FFFF_FFFF_FFFE ∷ [] ≡ won_a 0 0 ∷ won_a 0 0 ∷ won_a 0 0 ∷ []
  pub next_b : two 1 2 ∷ two 0xFFFF_FFFF 0x1_0000_0000 ∷ two 0xFFFF_FFFF_FFFF_FFFE highest_64 ∷ [] ≡ won_b 0 0 ∷ won_b 0 0 ∷ won_b 0 0 ∷ []
  pub gap_a : two 3 1 ∷ two 4 1 ∷ two highest_64 1 ∷ [] ≡ won_a 1 0 ∷ won_a 1 0 ∷ won_a 1 0 ∷ []
  pub gap_b : two 1 3 ∷ two 1 4 ∷ two 1 highest_64 ∷ [] ≡ won_b 1 0 ∷ won_b 1 0 ∷ won_b 1 0 ∷ []
  -- Equal, one up and lower by their 32 low bits.
  pub by_64_bits :
      two 1 0x1_0000_0001 ∷ two 1 0x1_0000_0002 ∷ two 2 0x1_0000_0001 ∷ two 0x1_0000_0001 2 ∷ [] ≡ won_b 1 0 ∷ won_b 1 0 ∷ won_b 1 0 ∷ won_a 1 0 ∷ []

-- Generation 2 beside 1, by the previous checksum that the newer one stores and the older one's own, as A and as B.
abbrev pub linked_a : (previous own : ℕ) → List ℕ
linked_a previous own = report_numbers (decide (version 2 7 previous) (version 1 own 5))

abbrev pub linked_b : (previous own : ℕ) → List ℕ
linked_b previous own = report_numbers (decide (version 1 own 5) (version 2 7 previous))

pub record LinkRows : Type 0 where
  pub whole_a : linked_a 8 8 ∷ linked_a 0 0 ∷ linked_a highest_32 highest_32 ∷ [] ≡ won_a 0 0 ∷ won_a 0 0 ∷ won_a 0 0 ∷ []
  pub whole_b : linked_b 8 8 ∷ linked_b 0 0 ∷ linked_b highest_32 highest_32 ∷ [] ≡ won_b 0 0 ∷ won_b 0 0 ∷ won_b 0 0 ∷ []
  -- By the lowest bit and by the highest, one up and one down.
  pub broken_a :
      linked_a 9 8 ∷ linked_a 8 9 ∷ linked_a 0x8000_0008 8 ∷ linked_a 8 0x8000_0008 ∷ [] ≡ won_a 0 1 ∷ won_a 0 1 ∷ won_a 0 1 ∷ won_a 0 1 ∷ []
  pub broken_b :
      linked_b 9 8 ∷ linked_b 8 9 ∷ linked_b 0x8000_0008 8 ∷ linked_b 8 0x8000_0008 ∷ [] ≡ won_b 0 1 ∷ won_b 0 1 ∷ won_b 0 1 ∷ won_b 0 1 ∷ []
  -- Its own checksum, and the older one's previous one.
  pub own : linked_a 7 8 ∷ linked_b 7 8 ∷ [] ≡ won_a 0 1 ∷ won_b 0 1 ∷ []
  pub previous : linked_a 5 8 ∷ linked_b 5 8 ∷ [] ≡ won_a 0 1 ∷ won_b 0 1 ∷ []
  -- Beside a gap no break is told.
  pub beside_gap :
      report_numbers (decide (version 3 7 9) (version 1 8 0)) ∷ report_numbers (decide (version 1 8 0) (version 3 7 9)) ∷ []
      ≡ won_a 1 0 ∷ won_b 1 0 ∷ []

-- ---- reports

-- What is decided of two slots, and its numbers: both codes, the winner's standing and slot, gap, chain break, next write.
abbrev pub Reports : SlotStatus → SlotStatus → Winner → (gap chain_break : Bool) → List ℕ → Type 0
Reports a b winner gap chain_break numbers =
    (decide a b ≡ record { a = a; b = b; winner = winner; generation_gap = gap; chain_break = chain_break })
    × (report_numbers (decide a b) ≡ numbers)

abbrev pub first : SlotStatus
first = version 1 8 0

abbrev pub second : SlotStatus
second = version 2 7 8

abbrev pub third : SlotStatus
third = version 3 6 9

pub record ReportRows : Type 0 where
  pub empty : Reports SlotStatus.Blank SlotStatus.Blank Winner.Empty false false (2 ∷ 2 ∷ 4 ∷ 0 ∷ 0 ∷ 0 ∷ 1 ∷ [])
  pub lost : Reports SlotStatus.Blank SlotStatus.ReadError Winner.Lost false false (2 ∷ 0 ∷ 2 ∷ 0 ∷ 0 ∷ 0 ∷ 0 ∷ [])
  pub refused : Reports (SlotStatus.UnsupportedVersion 3) (SlotStatus.Incompatible 1) Winner.Refused false false (5 ∷ 6 ∷ 3 ∷ 0 ∷ 0 ∷ 0 ∷ 0 ∷ [])
  pub refused_a : Reports (SlotStatus.Incompatible 1) second Winner.Refused false false (6 ∷ 12 ∷ 3 ∷ 0 ∷ 0 ∷ 0 ∷ 0 ∷ [])
  pub refused_b : Reports second (SlotStatus.UnsupportedVersion 3) Winner.Refused false false (12 ∷ 5 ∷ 3 ∷ 0 ∷ 0 ∷ 0 ∷ 0 ∷ [])
  pub fork : Reports second second Winner.Fork false false (12 ∷ 12 ∷ 5 ∷ 0 ∷ 0 ∷ 0 ∷ 0 ∷ [])
  pub alone_a : Reports first SlotStatus.Blank (Winner.Confirmed SlotIndex.A) false false (12 ∷ 2 ∷ 0 ∷ 1 ∷ 0 ∷ 0 ∷ 2 ∷ [])
  pub alone_b : Reports SlotStatus.BadPayloadCrc second (Winner.Confirmed SlotIndex.B) false false (11 ∷ 12 ∷ 0 ∷ 2 ∷ 0 ∷ 0 ∷ 1 ∷ [])
  pub doubted_a : Reports second SlotStatus.Foreign (Winner.Unconfirmed SlotIndex.A) false false (12 ∷ 8 ∷ 1 ∷ 1 ∷ 0 ∷ 0 ∷ 2 ∷ [])
  pub doubted_b : Reports SlotStatus.ReadError second (Winner.Unconfirmed SlotIndex.B) false false (0 ∷ 12 ∷ 1 ∷ 2 ∷ 0 ∷ 0 ∷ 1 ∷ [])
  pub in_order : Reports first second (Winner.Confirmed SlotIndex.B) false false (12 ∷ 12 ∷ 0 ∷ 2 ∷ 0 ∷ 0 ∷ 1 ∷ [])
  pub gap : Reports third first (Winner.Confirmed SlotIndex.A) true false (12 ∷ 12 ∷ 0 ∷ 1 ∷ 1 ∷ 0 ∷ 2 ∷ [])
  pub chain_broken : Reports second third (Winner.Confirmed SlotIndex.B) false true (12 ∷ 12 ∷ 0 ∷ 2 ∷ 0 ∷ 1 ∷ 1 ∷ [])

-- What is known of the winner, in numbers: its slot, then generation, owner generation, own and previous checksum, and the rest.
abbrev pub known : PairReport → List ℕ
known r = info_numbers (winner_info r)

-- A report that names a slot, whatever its status.
abbrev pub naming : Winner → PairReport
naming winner = record { a = first; b = second; winner = winner; generation_gap = false; chain_break = false }

abbrev pub of_first : List ℕ
of_first = 1 ∷ 1 ∷ 0 ∷ 8 ∷ 0 ∷ replicate 5 0

abbrev pub of_second : List ℕ
of_second = 2 ∷ 2 ∷ 0 ∷ 7 ∷ 8 ∷ replicate 5 0

pub record InfoRows : Type 0 where
  pub of_a : known (decide second first) ≡ 1 ∷ 2 ∷ 0 ∷ 7 ∷ 8 ∷ replicate 5 0
  pub of_b : known (decide first second) ≡ 2 ∷ 2 ∷ 0 ∷ 7 ∷ 8 ∷ replicate 5 0
  pub of_doubted : known (decide SlotStatus.ReadError first) ≡ 2 ∷ 1 ∷ 0 ∷ 8 ∷ 0 ∷ replicate 5 0
  pub by_winner :
      map (λ w. known (naming w))
      (Winner.Confirmed SlotIndex.A ∷ Winner.Confirmed SlotIndex.B ∷ Winner.Unconfirmed SlotIndex.A ∷ Winner.Unconfirmed SlotIndex.B ∷ Winner.Lost
      ∷ Winner.Refused ∷ Winner.Empty ∷ Winner.Fork ∷ [])
      ≡ of_first ∷ of_second ∷ of_first ∷ of_second ∷ (0 ∷ []) ∷ (0 ∷ []) ∷ (0 ∷ []) ∷ (0 ∷ []) ∷ []
  pub not_valid : known (record (naming (Winner.Confirmed SlotIndex.A)) { a = SlotStatus.Blank }) ≡ 0 ∷ []
  pub statuses : status (naming Winner.Lost) SlotIndex.A ∷ status (naming Winner.Lost) SlotIndex.B ∷ [] ≡ first ∷ second ∷ []
  pub one_of_two : of_slot SlotIndex.A first second ∷ of_slot SlotIndex.B first second ∷ [] ≡ first ∷ second ∷ []

-- ---- the winner's payload

-- Two slots of one pair, the record in B after the one in A, and what each is read with.
abbrev pub later : Header
later =
    record good {
      payload_crc32c = 0x03F8_9F52;
      generation = 12;
      slot_offset = 4608;
      payload_len = 2;
      slot_index = 1;
      prev_header_crc32c = 0xBECF_2A8C;
      meta_seq = 13;
    }

abbrev pub expected_b : Expect
expected_b = record expected { slot_offset = 4608; slot_index = SlotIndex.B }

-- B's payload torn.
abbrev pub torn : Header
torn = record later { payload_crc32c = 1 }

abbrev pub blank : List ℕ
blank = replicate 512 0

abbrev pub read : List ℕ → Expect → List ℕ → Expect → List ℕ
read a expect_a b expect_b = report_numbers (read_pair a expect_a b expect_b)

-- What is known of the winner of two such slots.
abbrev pub winner_of : List ℕ → List ℕ → Option (SlotIndex × SlotInfo)
winner_of a b = winner_info (read_pair a expected b expected_b)

abbrev pub known_a : SlotInfo
known_a =
    record {
      generation = 11;
      owner_generation = 10;
      header_crc32c = 0xBECF_2A8C;
      prev_header_crc32c = 13;
      ro_compat_flags = 5;
      compat_flags = 6;
      meta_seq = 12;
      payload_start = 128;
      payload_len = 3;
    }

abbrev pub known_b : SlotInfo
known_b =
    record known_a { generation = 12; header_crc32c = 0x674B_70C9; prev_header_crc32c = 0xBECF_2A8C; meta_seq = 13; payload_len = 2 }

pub record PayloadRows : Type 0 where
  pub in_order : read (slot_of good) expected (slot_of later) expected_b ≡ won_b 0 0
  pub second_in_a : read (slot_of later) expected_b (slot_of good) expected ≡ won_a 0 0
  -- Read as the other slot a slot is Misplaced.
  pub exchanged : read (slot_of good) expected_b (slot_of later) expected ≡ 10 ∷ 10 ∷ 2 ∷ 0 ∷ 0 ∷ 0 ∷ 0 ∷ []
  pub both_as_a : read (slot_of good) expected (slot_of later) expected ≡ 12 ∷ 10 ∷ 1 ∷ 1 ∷ 0 ∷ 0 ∷ 2 ∷ []
  pub both_as_b : read (slot_of good) expected_b (slot_of later) expected_b ≡ 10 ∷ 12 ∷ 1 ∷ 2 ∷ 0 ∷ 0 ∷ 1 ∷ []
  pub torn_b : read (slot_of good) expected (slot_of torn) expected_b ≡ 12 ∷ 11 ∷ 0 ∷ 1 ∷ 0 ∷ 0 ∷ 2 ∷ []
  pub blanks : read blank expected blank expected_b ≡ 2 ∷ 2 ∷ 4 ∷ 0 ∷ 0 ∷ 0 ∷ 1 ∷ []
  -- The winner, and its payload's bytes and place: a part of B from 128 on, of A, and A's bytes 0 to 0.
  pub winner_b : winner_of (slot_of good) (slot_of later) ≡ Some (SlotIndex.B, known_b)
  pub winner_a : winner_of (slot_of good) (slot_of torn) ≡ Some (SlotIndex.A, known_a)
  pub winner_none : winner_of blank blank ≡ None
  pub part_b : (a b r : Bor (List ℕ)) → b.now ≡ slot_of later → WinnerPart (winner_of (slot_of good) (slot_of later)) a b r → Part b 128 2 r
  pub part_a : (a b r : Bor (List ℕ)) → a.now ≡ slot_of good → WinnerPart (winner_of (slot_of good) (slot_of torn)) a b r → Part a 128 3 r
  pub part_none : (a b r : Bor (List ℕ)) → WinnerPart (winner_of blank blank) a b r → Part a 0 0 r
