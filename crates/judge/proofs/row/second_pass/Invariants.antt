-- The verdicts that are left, after those settled so far, give the row's heal and last verdicts.
use Rattle.std.proofs.Common.{◌≡◌, ◌++◌, cond, eqb, take, drop, map, length, None}
use Rattle.judge.specs.Judge.{last_verdicts}
use Rattle.judge.specs.Passes.{heals}
use Rattle.judge.proofs.row.second_pass.Given as goal

abbrev pub invariant-loop-i : goal.invariant-loop-i
invariant-loop-i g l = record {
  heal :
      heals l.i l.heal (last_verdicts (cond (eqb l.i 0) l.rules.volume_demote l.rules.page_demote) l.rules.page_demote (map g.V.Verdicts.read (drop l.i (g.V.Verdicts.cells l.out))))
      ≡ heals 0 None (last_verdicts l.rules.volume_demote l.rules.page_demote (map g.V.Verdicts.read (g.V.Verdicts.cells l.initial.out)));
  room : length (g.V.Verdicts.cells l.out) ≡ length (g.V.Verdicts.cells l.initial.out);
  written :
      take l.i (g.V.Verdicts.cells l.out)
      ++ map g.V.Verdicts.cell (last_verdicts (cond (eqb l.i 0) l.rules.volume_demote l.rules.page_demote) l.rules.page_demote (map g.V.Verdicts.read (drop l.i (g.V.Verdicts.cells l.out))))
      ≡ map g.V.Verdicts.cell (last_verdicts l.rules.volume_demote l.rules.page_demote (map g.V.Verdicts.read (g.V.Verdicts.cells l.initial.out)));
  hold : map g.V.Verdicts.cell (map g.V.Verdicts.read (g.V.Verdicts.cells l.out)) ≡ g.V.Verdicts.cells l.out;
  place : g.V.Verdicts.place l.out ≡ g.V.Verdicts.place l.initial.out;
}
