-- The numbers of a pair's report and of the answers to its questions (docs/FORMAT.md, "Pairs"). A slot is 0 none, 1 A, 2 B.
use Rattle.std.specs.Prelude.{List, [], ◌∷◌, ℕ, Option, Some, None}
use Rattle.std.specs.Int.{from_bool}
use Rattle.slot.specs.Numbers.{info_values, choice_number}
use Rattle.slot.specs.Status.{slot_number, code}
use Rattle.slot.specs.declared.slot.SlotIndex.{SlotIndex}
use Rattle.slot.specs.declared.slot.SlotInfo.{SlotInfo}
use Rattle.pair.specs.declared.pair.Winner.{Winner}
use Rattle.pair.specs.declared.pair.PairReport.{PairReport}
use Rattle.pair.specs.Pair.{next_write}

-- The numbers of the judge's standings, and after them 4 Empty and 5 Fork.
abbrev pub winner_number : Winner → ℕ
winner_number (Winner.Confirmed index) = 0
winner_number (Winner.Unconfirmed index) = 1
winner_number Winner.Lost = 2
winner_number Winner.Refused = 3
winner_number Winner.Empty = 4
winner_number Winner.Fork = 5

abbrev pub winner_slot : Winner → ℕ
winner_slot (Winner.Confirmed index) = slot_number index
winner_slot (Winner.Unconfirmed index) = slot_number index
winner_slot Winner.Lost = 0
winner_slot Winner.Refused = 0
winner_slot Winner.Empty = 0
winner_slot Winner.Fork = 0

-- The codes of A and of B, the winner's standing and slot, gap, chain break, and the slot of the next write.
unfoldable pub report_numbers : PairReport → List ℕ
report_numbers r =
    code r.a
    ∷ code r.b
    ∷ winner_number r.winner
    ∷ winner_slot r.winner
    ∷ from_bool r.generation_gap
    ∷ from_bool r.chain_break
    ∷ choice_number (next_write r)
    ∷ []

-- The winner's slot and what is known of it; nothing after the 0 without a winner.
abbrev pub info_numbers : Option (SlotIndex × SlotInfo) → List ℕ
info_numbers (Some won) = slot_number won.0 ∷ info_values won.1
info_numbers None = 0 ∷ []
