-- The winner's payload (docs/FORMAT.md, "The C interface") as a C host finds it: its slot (0 none, 1 A, 2 B), its start and its
-- length in that slot.
use Rattle.std.specs.Prelude.{◌≡◌, ◌==◌, if◌then◌else◌, List, [], ℕ, length, take, drop, Option, Some, None}
use Rattle.std.specs.Borrow.{Bor}
use Rattle.codec.specs.Place.{Part}
use Rattle.slot.specs.Numbers.{status_values, choice_number}
use Rattle.slot.specs.Payload.{payload_start, payload_length}
use Rattle.slot.specs.Status.{slot_number}
use Rattle.slot.specs.declared.slot.Expect.{Expect}
use Rattle.slot.specs.declared.slot.SlotIndex.{SlotIndex}
use Rattle.slot.specs.declared.slot.SlotInfo.{SlotInfo}
use Rattle.pair.specs.Numbers.{report_numbers}
use Rattle.pair.specs.Pair.{winner_info}
use Rattle.pair.specs.Winner.{read_pair}
use Rattle.pair.specs.declared.pair.PairReport.{PairReport}
use Rattle.judge.specs.declared.verdict.PairVerdict.{PairVerdict}
use Rattle.cut.specs.Store.{Pair}
use Rattle.cut.specs.Cut.{ReadBack}
use Rattle.cut.specs.Laws.{HasSlots}
use Rattle.store_io.specs.Arguments.{expect_of}

-- Both slots of a pair share all but the offset and the index.
abbrev pub pair_of : List ℕ → List ℕ → ℕ → ℕ → ℕ → ℕ → ℕ → ℕ → ℕ → ℕ → PairReport
pair_of a b volume0 volume1 object a_offset b_offset log2 format numbered =
    read_pair a (expect_of volume0 volume1 object a_offset 0 log2 format numbered) b (expect_of volume0 volume1 object b_offset 1 log2 format numbered)

-- The winner's slot, and where its payload lies in slots A and B of these lengths: zeros without a winner.
abbrev pub winner_index : Option (SlotIndex × SlotInfo) → ℕ
winner_index (Some won) = slot_number won.0
winner_index None = 0

abbrev pub winner_start : ℕ → ℕ → Option (SlotIndex × SlotInfo) → ℕ
winner_start a b (Some (SlotIndex.A, i)) = payload_start i a
winner_start a b (Some (SlotIndex.B, i)) = payload_start i b
winner_start a b None = 0

abbrev pub winner_length : ℕ → ℕ → Option (SlotIndex × SlotInfo) → ℕ
winner_length a b (Some (SlotIndex.A, i)) = payload_length i a
winner_length a b (Some (SlotIndex.B, i)) = payload_length i b
winner_length a b None = 0

-- The winner's slot, the values of A's and of B's status, the report, and the payload's start and length.
abbrev pub winner_answer : ℕ → ℕ → PairReport → ℕ × List ℕ × List ℕ × List ℕ × ℕ × ℕ
winner_answer a b r =
    (winner_index (winner_info r), status_values r.a, status_values r.b, report_numbers r, winner_start a b (winner_info r), winner_length a b (winner_info r))

-- Slot number, start and length are the place of a part in the bytes of slots A and B:
pub data PlacedAt (slot start len : ℕ) (a b part : Bor (List ℕ)) : Type 0 where
  -- in neither, and the part is empty,
  nowhere : slot ≡ 0 → start ≡ 0 → len ≡ 0 → part.now ≡ [] → PlacedAt slot start len a b part
  -- in A,
  in_a : slot ≡ 1 → Part a start len part → length part.now ≡ len → PlacedAt slot start len a b part
  -- or in B.
  in_b : slot ≡ 2 → Part b start len part → length part.now ≡ len → PlacedAt slot start len a b part

-- The bytes of slots A and B that these numbers name.
abbrev pub bytes_at : (slot start len : ℕ) → (a b : List ℕ) → List ℕ
bytes_at slot start len a b = if slot == 1 then take len (drop start a) else if slot == 2 then take len (drop start b) else []

-- They are the record that is read back, in the slot that the verdict names as winner.
pub record ReadAt (slot start len : ℕ) (a b : List ℕ) (v : PairVerdict) (r : List ℕ) : Type 0 where
  pub bytes : bytes_at slot start len a b ≡ r
  pub named : choice_number v.winner ≡ slot

-- So it is of every pair with these slots of which a record is read back, as of each pair after a cut and after each write of a history.
abbrev pub ReadsBack : (slot start len : ℕ) → (a : List ℕ) → Expect → (b : List ℕ) → Expect → Type 0
ReadsBack slot start len a expect_a b expect_b =
    (p : Pair) (v : PairVerdict) (r : List ℕ) → HasSlots p a expect_a b expect_b → ReadBack p v r → ReadAt slot start len a b v r
