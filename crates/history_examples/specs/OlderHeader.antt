-- A header stands again. A page is written to slot A of pair 1 over generation 1 and cut after nine bytes, so that of the header there only
-- the first byte of its checksum is another one; the write that heals is cut after nine bytes too, and has the byte there that was there at
-- first. That is an accident, but one that does no harm: the older version stands again, nothing is named, and the next write is finished.
--
-- The values follow from docs/FORMAT.md, "Slot status", "Header facts", "The store verdict" and "The winner's payload".
use Rattle.std.specs.Prelude.{◌≡◌, [], ◌∷◌, Some, None}
use Rattle.slot.specs.declared.slot.SlotIndex.{SlotIndex}
use Rattle.slot.specs.declared.slot.SlotInfo.{SlotInfo}
use Rattle.slot.specs.declared.slot.SlotFields.{SlotFields}
use Rattle.cut.specs.Cut.{Tear, Ascending, Write}
use Rattle.cut_examples.specs.Stores.{page_record, first_page, new_fields}
use Rattle.cut_examples.specs.Computed.{torn_header}
use Rattle.cut_examples.specs.Cuts.{old_records, new_page_records, older_read, new_read}
use Rattle.history.specs.History.{Tracked, started, HistoryAccident, HarmfulAccident, Put, Reached}
use Rattle.history_examples.specs.States.{store_with, put, page_write, torn_page, finished_page, StateIs, NumbersAre}

-- ---- the history

abbrev pub at_first : Tracked
at_first = started first_page

-- Generation 3, with B's checksum and number 5. Its header's checksum is 0xd61e_00d0, the one of the header there 0x588e_9174.
abbrev pub new_put : Tear → Put
new_put tear = put new_fields (page_record 0 0x304) tear

-- Cut after nine bytes: the magic, which is that of every header, and 0xd0.
abbrev pub torn : Tracked
torn = torn_page at_first (new_put (Ascending 9))

-- The winner's record is written anew, with the same number. The owner generation makes the header's checksum 0xb350_ad74.
abbrev pub healing_fields : SlotFields
healing_fields = record new_fields { owner_generation = 551 }

abbrev pub healing_put : Put
healing_put = put healing_fields (page_record 0 2) (Ascending 9)

-- Cut after nine bytes: the magic and 0x74.
abbrev pub healing_write : Write
healing_write = page_write torn healing_put

abbrev pub stood_again : Tracked
stood_again = torn_page torn healing_put

-- Nothing is named: the number is one above the highest of all numbered slots of its operator, and finished all bytes are in the slot.
abbrev pub written : Tracked
written = finished_page stood_again (new_put (Ascending 512))

-- The history leads to each of them, and no accident that does harm happened.
pub record OlderHeaderReached : Type 0 where
  pub first : Reached HarmfulAccident (store_with at_first)
  pub cut : Reached HarmfulAccident (store_with torn)
  pub cut_again : Reached HarmfulAccident (store_with stood_again)
  pub finished : Reached HarmfulAccident (store_with written)

-- ---- the accident

-- Slot A is byte for byte what it was at first,
abbrev pub SlotAsAtFirst : Type 0
SlotAsAtFirst = stood_again.pair.a.bytes ≡ first_page.a.bytes

-- and that is an accident of the theorem, whatever the winner: a header passes that is neither the one before the cut, whose checksum
-- fails, nor the one being written,
abbrev pub StandsByAccident : Type 0
StandsByAccident = (winner : SlotInfo) → HistoryAccident healing_write torn.a winner

-- but none of those that do harm: it is the one that the slot had when it was last Valid.
abbrev pub StandsWithoutHarm : Type 0
StandsWithoutHarm = (winner : SlotInfo) → HarmfulAccident healing_write torn.a winner → ⊥

-- ---- what is computed

pub record OlderHeaderStates : Type 0 where
  -- A is Valid and older: Nothing.
  pub first : StateIs at_first older_read None (0 ∷ 1 ∷ 0 ∷ 1 ∷ 0 ∷ 2 ∷ 1 ∷ 0 ∷ 0 ∷ 1 ∷ 0 ∷ 1 ∷ []) old_records (page_record 0 2 ∷ [])
  -- The header fails its checksum, and the stored one, of one new byte and three old, is not B's previous one: InFlight.
  pub cut : StateIs torn (torn_header 0x588e_91d0) (Some (1, SlotIndex.A)) (0 ∷ 1 ∷ 0 ∷ 1 ∷ 0 ∷ 2 ∷ 3 ∷ 0 ∷ 0 ∷ 1 ∷ 0 ∷ 1 ∷ []) old_records
      (page_record 0 0x304 ∷ page_record 0 2 ∷ [])
  -- As at first; that the write was begun is all that is remembered.
  pub cut_again : StateIs stood_again older_read None (0 ∷ 1 ∷ 0 ∷ 1 ∷ 0 ∷ 2 ∷ 1 ∷ 0 ∷ 0 ∷ 1 ∷ 0 ∷ 1 ∷ []) old_records
      (page_record 0 2 ∷ page_record 0 0x304 ∷ page_record 0 2 ∷ [])
  -- A is Valid and newer: Winner.
  pub finished : StateIs written new_read None
      (0 ∷ 1 ∷ 0 ∷ 1 ∷ 0 ∷ 1 ∷ 0 ∷ 1 ∷ 0 ∷ 1 ∷ 0 ∷ 1 ∷ []) new_page_records (page_record 0 0x304 ∷ [])

pub record OlderHeaderNumbers : Type 0 where
  -- B has the number 4, and the header that fails does not count.
  pub first : NumbersAre at_first 5 5
  pub cut : NumbersAre torn 5 5
  -- A counts with the number 2 that it had at first.
  pub cut_again : NumbersAre stood_again 5 5
  -- A is the winner with the number 5.
  pub finished : NumbersAre written 6 6
