-- The numbers of the pairs that are left, after those counted so far, give the row's; and all of them are in range if these are.
use Rattle.std.proofs.Common.{◌≡◌, true, eqb, drop, map}
use Rattle.std.specs.List.{list_all}
use Rattle.judge.specs.Operators.{operators_in_range}
use Rattle.judge.specs.Maxima.{note_pairs}
use Rattle.judge.proofs.row.note.Given as goal

abbrev pub invariant-loop-i : goal.invariant-loop-i
invariant-loop-i g l = record {
  numbers : note_pairs g.C.Notes.noted l.notes (map g.P.ReadPair.shown (drop l.i l.pairs)) ≡ note_pairs g.C.Notes.noted l.initial.notes (map g.P.ReadPair.shown l.pairs);
  range : list_all g.P.ReadPair.within (drop l.i l.pairs) ≡ list_all g.P.ReadPair.within l.pairs;
  operators :
      operators_in_range (eqb l.i 0) (map g.P.ReadPair.shown (drop l.i l.pairs)) ≡ operators_in_range true (map g.P.ReadPair.shown l.pairs);
}
