-- What record a frame (docs/FORMAT.md, "Frames") stands for: the statuses by their numbers, the info of a Valid slot and the
-- header's facts from the part's fields.
use Rattle.std.specs.Prelude.{◌≡◌, true, ℕ, List, nat_le, if◌then◌else◌, unwrap_or, Option, None}
use Rattle.slot.specs.declared.slot.HeaderFacts.{HeaderFacts}
use Rattle.slot.specs.declared.slot.SlotStatus.{SlotStatus}
use Rattle.judge.specs.declared.part.SlotPart.{SlotPart}
use Rattle.judge.specs.declared.records.SlotRead.{SlotRead}
use Rattle.judge.specs.declared.records.PairRead.{PairRead}
use Rattle.judge.specs.Frames.{operator_in, pair_from, parts_in_range}
use Rattle.judge.specs.Records.{pair_read}
use Rattle.judge.specs.Part.{part_width, part_at, part_status, facts_of}

-- A number that is no status stands for a slot that was not read.
abbrev pub status_from : SlotPart → SlotStatus
status_from p = unwrap_or (part_status p) SlotStatus.ReadError

-- A number that is none of facts stands for none.
abbrev pub facts_from : SlotPart → Option HeaderFacts
facts_from p = if nat_le p.facts 2 then facts_of p else None

abbrev pub slot_of : SlotPart → SlotRead
slot_of p = record { status = status_from p; facts = facts_from p }

abbrev pub pair_of : List ℕ → PairRead
pair_of s = record { a = slot_of (part_at s 0); b = slot_of (part_at s part_width); operator = operator_in s }

-- Of a frame whose slots' values are in range the judge is told the same by its record.
abbrev pub SameShown : Type 0
SameShown = (s : List ℕ) → parts_in_range s ≡ true → pair_read (pair_of s) ≡ pair_from s
