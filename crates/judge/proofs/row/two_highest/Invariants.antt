-- The numbers of the pairs that are left, after those noted so far, give the row's.
use Rattle.std.proofs.Common.{◌≡◌, drop, map}
use Rattle.judge.specs.Maxima.{note_own, note_pairs, no_own}
use Rattle.judge.proofs.row.two_highest.Given as goal

abbrev pub invariant-loop-p : goal.invariant-loop-p
invariant-loop-p g l = record {
  numbers :
      note_pairs note_own l.own (map g.P.ReadPair.shown (drop l.p-index l.pairs)) ≡ note_pairs note_own (no_own l.operator) (map g.P.ReadPair.shown l.pairs);
}
