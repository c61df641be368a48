-- What a pair is (docs/FORMAT.md, "What a correct write is"): `decide` says it of the two parts of the pair's frame.
use Rattle.std.specs.Prelude.{List, ℕ, unwrap_or}
use Rattle.slot.specs.declared.slot.SlotStatus.{SlotStatus}
use Rattle.pair.specs.Pair.{decide}
use Rattle.pair.specs.declared.pair.PairReport.{PairReport}
use Rattle.judge.specs.Part.{part_width, part_at, part_status}
use Rattle.judge.specs.declared.part.SlotPart.{SlotPart}

-- Of a number out of range, which the judge refuses first, ReadError.
abbrev pub status_or_unread : SlotPart → SlotStatus
status_or_unread p = unwrap_or (part_status p) SlotStatus.ReadError

-- What `decide` says of the frame's two parts.
abbrev pub frame_report : List ℕ → PairReport
frame_report f = decide (status_or_unread (part_at f 0)) (status_or_unread (part_at f part_width))
