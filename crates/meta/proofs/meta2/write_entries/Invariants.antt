-- The entries before are written, and what lies after them is as it was.
use Rattle.std.proofs.Common.{◌≡◌, ◌++◌, ◌*◌, take, drop}
use Rattle.std.specs.List.{flat_map}
use Rattle.meta.specs.Page.{stored_part}
use Rattle.meta.proofs.meta2.write_entries.Given as goal

abbrev pub invariant-loop-i : goal.invariant-loop-i
invariant-loop-i l = l.out ≡ flat_map stored_part (take l.i l.entries) ++ drop (l.i * 96) l.fn.out
