-- `copy` meets its contract. The loop's invariant: the bytes so far are copied.
use Rattle.std.proofs.Common.{◌≡◌, take}
use Rattle.codec.proofs.codec.copy.Given as goal

abbrev pub invariant-loop-i : goal.invariant-loop-i
invariant-loop-i l = take l.i l.to ≡ take l.i l.from
