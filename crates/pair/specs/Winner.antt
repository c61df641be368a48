-- The winner's payload (docs/FORMAT.md, "The winner's payload"): a part of slot A's or slot B's bytes.
use Rattle.std.specs.Prelude.{◌≡◌, List, ℕ, ◌+◌, ◌≤◌, length, Option, Some, None}
use Rattle.std.specs.Borrow.{Bor}
use Rattle.codec.specs.Place.{Part}
use Rattle.slot.specs.Payload.{payload_start, payload_length}
use Rattle.slot.specs.Read.{validate}
use Rattle.slot.specs.declared.slot.SlotIndex.{SlotIndex}
use Rattle.slot.specs.declared.slot.SlotInfo.{SlotInfo}
use Rattle.slot.specs.declared.slot.Expect.{Expect}
use Rattle.pair.specs.Pair.{decide, winner_info}
use Rattle.pair.specs.declared.pair.PairReport.{PairReport}

-- Both slots are validated, each with what it is read with.
unfoldable pub read_pair : List ℕ → Expect → List ℕ → Expect → PairReport
read_pair a expect_a b expect_b = decide (validate a expect_a) (validate b expect_b)

-- r is the payload's place in a slot's own bytes.
abbrev pub PayloadPart : SlotInfo → Bor (List ℕ) → Bor (List ℕ) → Type 0
PayloadPart i s r = Part s (payload_start i (length s.now)) (payload_length i (length s.now)) r

-- Without a winner the part is empty: A's bytes 0 to 0.
abbrev pub WinnerPart : Option (SlotIndex × SlotInfo) → Bor (List ℕ) → Bor (List ℕ) → Bor (List ℕ) → Type 0
WinnerPart (Some (SlotIndex.A, i)) a b r = PayloadPart i a r
WinnerPart (Some (SlotIndex.B, i)) a b r = PayloadPart i b r
WinnerPart None a b r = Part a 0 0 r

abbrev pub of_slot : {A : Type 0} → SlotIndex → A → A → A
of_slot SlotIndex.A a b = a
of_slot SlotIndex.B a b = b

-- The winner's payload lies within its slot.
abbrev pub WinnerFits : Type 0
WinnerFits =
    (a b : List ℕ) (expect_a expect_b : Expect) (index : SlotIndex) (i : SlotInfo)
    → winner_info (read_pair a expect_a b expect_b) ≡ Some (index, i)
    → i.payload_start + i.payload_len ≤ length (of_slot index a b)
