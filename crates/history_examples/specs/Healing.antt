-- The write that heals is cut too. A page of four entries is written to slot A of the pair with slots of 1,024 bytes, over generation 1;
-- the write is cut in its header, the one that heals is cut after its first sector, and written again it is finished.
--
-- The values follow from docs/FORMAT.md, "Slot status", "Header facts", "The store verdict" and "The winner's payload".
use Rattle.std.specs.Prelude.{[], ◌∷◌, Some, None}
use Rattle.slot.specs.declared.slot.SlotIndex.{SlotIndex}
use Rattle.cut.specs.Cut.{Tear, Ascending, Sectors}
use Rattle.cut_examples.specs.Stores.{long_record, long_page}
use Rattle.cut_examples.specs.Writes.{long_fields, the_first, both}
use Rattle.cut_examples.specs.Computed.{torn_header, torn_payload, valid_read}
use Rattle.cut_examples.specs.Cuts.{long_old_records, long_new_records}
use Rattle.history.specs.History.{Tracked, started, HistoryAccident, Put, Reached}
use Rattle.history_examples.specs.States.{store_with, put, torn_page, finished_page, StateIs, NumbersAre}

-- ---- the history

-- Generation 3, with B's checksum and number 5: of its operator, one above the highest of all numbered slots, and one above all winners.
abbrev pub long_put : Tear → Put
long_put tear = put long_fields (long_record 0x2_8000 5) tear

abbrev pub at_first : Tracked
at_first = started long_page

-- Cut after 64 bytes.
abbrev pub torn : Tracked
torn = torn_page at_first (long_put (Ascending 64))

-- The write that heals has the same number, one above all winners of its operator. Of its two sectors the first reached the slot.
abbrev pub torn_again : Tracked
torn_again = torn_page torn (long_put (Sectors the_first))

-- It has the same number once more. Finished, both are in the slot.
abbrev pub healed : Tracked
healed = finished_page torn_again (long_put (Sectors both))

-- The history leads to each of them, and none of the theorem's accidents happened.
pub record HealingReached : Type 0 where
  pub first : Reached HistoryAccident (store_with at_first)
  pub cut : Reached HistoryAccident (store_with torn)
  pub cut_again : Reached HistoryAccident (store_with torn_again)
  pub finished : Reached HistoryAccident (store_with healed)

-- ---- what is computed

pub record HealingStates : Type 0 where
  -- A is Valid and older: Nothing.
  pub first : StateIs at_first (valid_read 1 2 0x3b80_d549 0 408) None (0 ∷ 1 ∷ 0 ∷ 1 ∷ 0 ∷ 2 ∷ 1 ∷ 0 ∷ 0 ∷ 1 ∷ 0 ∷ 1 ∷ []) long_old_records
      (long_record 0x2_4000 4 ∷ [])
  -- The header fails its checksum, and the stored one, the new one, is not B's previous one: InFlight.
  pub cut : StateIs torn (torn_header 0x4d45_7736) (Some (1, SlotIndex.A))
      (0 ∷ 1 ∷ 0 ∷ 1 ∷ 0 ∷ 2 ∷ 3 ∷ 0 ∷ 0 ∷ 1 ∷ 0 ∷ 1 ∷ []) long_old_records
      (long_record 0x2_8000 5 ∷ long_record 0x2_4000 4 ∷ [])
  -- The payload fails its checksum under the new header, generation, previous checksum and number follow on: InFlight.
  pub cut_again : StateIs torn_again (torn_payload 3 5 0x4d45_7736 0xd7d6_5030) (Some (1, SlotIndex.A))
      (0 ∷ 1 ∷ 0 ∷ 1 ∷ 0 ∷ 2 ∷ 3 ∷ 0 ∷ 0 ∷ 1 ∷ 0 ∷ 1 ∷ []) long_old_records
      (long_record 0x2_8000 5 ∷ long_record 0x2_8000 5 ∷ long_record 0x2_4000 4 ∷ [])
  -- A is Valid and newer: Winner, and nothing is named. The record before may be read no more.
  pub finished : StateIs healed (valid_read 3 5 0x4d45_7736 0xd7d6_5030 408) None
      (0 ∷ 1 ∷ 0 ∷ 1 ∷ 0 ∷ 1 ∷ 0 ∷ 1 ∷ 0 ∷ 1 ∷ 0 ∷ 1 ∷ []) long_new_records
      (long_record 0x2_8000 5 ∷ [])

pub record HealingNumbers : Type 0 where
  -- B has the number 4.
  pub first : NumbersAre at_first 5 5
  -- A header that fails does not count with its number.
  pub cut : NumbersAre torn 5 5
  -- One that passes counts with the number 5, though its payload fails. The write that heals goes over it and has that number again: 6, one
  -- above the highest, would leave a number out, and a write with it that is torn would be Damage.
  pub cut_again : NumbersAre torn_again 6 5
  -- A is the winner with the number 5.
  pub finished : NumbersAre healed 6 6
