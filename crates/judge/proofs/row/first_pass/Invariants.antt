-- The pairs that are left, after those counted and written so far, give the row's tally and verdicts.
use Rattle.std.proofs.Common.{◌≡◌, ◌≤◌, ◌++◌, true, eqb, take, drop, map, length}
use Rattle.judge.specs.Passes.{verdicts_by, no_tally, tallies}
use Rattle.judge.proofs.row.first_pass.Given as goal

abbrev pub invariant-loop-i : goal.invariant-loop-i
invariant-loop-i g l = record {
  tally : tallies l.maxima (eqb l.i 0) l.t (map g.P.ReadPair.shown (drop l.i l.pairs)) ≡ tallies l.maxima true no_tally (map g.P.ReadPair.shown l.pairs);
  count : l.t.candidates ≤ l.i;
  room : length (g.V.Verdicts.cells l.out) ≡ length l.pairs;
  written :
      take l.i (g.V.Verdicts.cells l.out) ++ map g.V.Verdicts.cell (verdicts_by l.maxima (map g.P.ReadPair.shown (drop l.i l.pairs)))
      ≡ map g.V.Verdicts.cell (verdicts_by l.maxima (map g.P.ReadPair.shown l.pairs));
  place : g.V.Verdicts.place l.out ≡ g.V.Verdicts.place l.initial.out;
}
