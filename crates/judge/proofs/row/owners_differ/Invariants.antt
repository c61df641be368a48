-- The winners that are left, after the first one found so far, give the row's answer.
use Rattle.std.proofs.Common.{◌≡◌, drop, map}
use Rattle.judge.specs.Owners.{owners, any_two_differ}
use Rattle.judge.proofs.OwnerLaws.{differ_after}
use Rattle.judge.proofs.row.owners_differ.Given as goal

abbrev pub invariant-loop-i : goal.invariant-loop-i
invariant-loop-i g l = record {
  answer :
      differ_after l.first
      (owners (map g.P.ReadPair.shown (drop l.i l.pairs)) (map g.V.Verdicts.read (drop l.i (g.V.Verdicts.cells l.out))))
      ≡ any_two_differ (owners (map g.P.ReadPair.shown l.pairs) (map g.V.Verdicts.read (g.V.Verdicts.cells l.out)));
}
