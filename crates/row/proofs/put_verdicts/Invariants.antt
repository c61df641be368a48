-- The bytes so far, followed by those of the verdicts that are left, are all.
use Rattle.std.proofs.Common.{◌≡◌, ◌++◌, ◌*◌, length, take, drop}
use Rattle.judge.specs.Frames.{row_bytes}
use Rattle.row.proofs.put_verdicts.Given as goal

abbrev pub invariant-loop-i : goal.invariant-loop-i
invariant-loop-i l = record {
  size : length l.out ≡ length l.verdicts * 4;
  filled : take (l.i * 4) l.out ++ row_bytes (drop l.i l.verdicts) ≡ row_bytes l.verdicts;
}
