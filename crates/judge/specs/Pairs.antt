-- What a pair shows by itself (docs/FORMAT.md, "The store verdict"; judge.rs): the numbers its slots count for, its winner, and the slot
-- opposite the winner.
use Rattle.std.specs.Prelude.{Bool, true, false, ◌&&◌, ◌||◌, ℕ, ◌+◌, ◌==◌, nat_lt, nat_le, if◌then◌else◌, Option, Some, None}
use Rattle.slot.specs.declared.slot.SlotIndex.{SlotIndex}
use Rattle.slot.specs.declared.slot.NumberedHeader.{NumberedHeader}
use Rattle.judge.specs.declared.pairs.Version.{Version}
use Rattle.judge.specs.declared.pairs.Shown.{Shown}
use Rattle.judge.specs.declared.pairs.Pair.{Pair}
use Rattle.judge.specs.declared.pairs.Opposite.{Opposite}
use Rattle.judge.specs.declared.pairs.PairCase.{PairCase}

-- The numbered slots are the Valid ones, and those whose header passed every check but the payload's.
-- Of another header the number may be a mixture of two writes.
abbrev pub numbered : Shown → Option ℕ
numbered (Shown.Valid v) = Some v.meta_seq
numbered (Shown.BadPayload n) = Some n.meta_seq
numbered _ = None

-- ---- the slot opposite the one Valid slot, which is the winner's at the index

-- A payload that fails: an older generation, or the next one with the winner's checksum as its previous one.
-- The latter is what a write leaves that was cut in its payload. No power cut leaves another header there.
abbrev pub bad_payload : Version → NumberedHeader → Opposite
bad_payload winner n =
    if nat_lt n.generation winner.generation then Opposite.OlderDamaged
    else if (n.generation == winner.generation + 1) && (n.prev_header_crc32c == winner.header_crc32c) then Opposite.Candidate (Some n.meta_seq)
    else Opposite.Damage

-- A header that fails: the stored checksum of the winner's predecessor, or any other one.
-- The winner records the checksum of the slot that it replaced; in generation 1 it replaced none. Any other one is what a write leaves
-- that was cut in its header.
abbrev pub bad_header : Version → ℕ → Opposite
bad_header winner stored =
    if nat_le 2 winner.generation && (stored == winner.prev_header_crc32c) then Opposite.OlderDamaged else Opposite.Candidate None

-- Only B is blank beside a first write.
-- The first write of a pair goes to A, and from the second on both slots have been written.
abbrev pub blank : SlotIndex → Version → Opposite
blank SlotIndex.A winner = if winner.generation == 1 then Opposite.Nothing else Opposite.Damage
blank SlotIndex.B winner = Opposite.Damage

abbrev pub opposite : SlotIndex → Version → Shown → Opposite
opposite index winner (Shown.BadPayload n) = bad_payload winner n
opposite index winner (Shown.BadHeader stored) = bad_header winner stored
opposite index winner Shown.Blank = blank index winner
opposite index winner _ = Opposite.Damage

-- ---- the pair

-- A later version may have a newer record there: the pair has no winner.
abbrev pub is_unsupported : Shown → Bool
is_unsupported Shown.Unsupported = true
is_unsupported _ = false

abbrev pub valid : Shown → Option Version
valid (Shown.Valid v) = Some v
valid _ = None

-- Two Valid slots: the newer wins, and equal generations are a fork.
abbrev pub newer : Version → Version → PairCase
newer a b =
    if a.generation == b.generation then PairCase.Lost
    else if nat_lt b.generation a.generation then PairCase.Won SlotIndex.A Opposite.Nothing
    else PairCase.Won SlotIndex.B Opposite.Nothing

abbrev pub winner : Pair → Option Version → Option Version → PairCase
winner p None None = PairCase.Lost
winner p (Some a) None = PairCase.Won SlotIndex.A (opposite SlotIndex.A a p.b)
winner p None (Some b) = PairCase.Won SlotIndex.B (opposite SlotIndex.B b p.a)
winner p (Some a) (Some b) = newer a b

abbrev pub pair_case : Pair → PairCase
pair_case p = if is_unsupported p.a || is_unsupported p.b then PairCase.Refused else winner p (valid p.a) (valid p.b)

-- A candidate for the write in flight, qualifying or not.
abbrev pub has_candidate : PairCase → Bool
has_candidate (PairCase.Won _ (Opposite.Candidate _)) = true
has_candidate _ = false
