-- One verdict more is settled, and one less is left; where nothing is in flight the verdict stays.
use Rattle.std.proofs.Common.{◌≡◌, sym, ap, ◌∙◌, ◌+◌, ◌<◌, ◌++◌, ◌∷◌, false, cond, eqb, arith, length, drop, take, map, ne_eqb, append_assoc}
use Rattle.std.proofs.lemmas.List.{length-set}
use Rattle.judge.specs.declared.verdict.PairVerdict.{PairVerdict}
use Rattle.judge.specs.Verdict.{in_flight}
use Rattle.std.specs.Option.{option_or}
use Rattle.judge.specs.Judge.{pair_heal, last_verdicts}
use Rattle.judge.specs.Passes.{heals}
use Rattle.judge.proofs.RowLaws.{settled, stayed, put-holds, idle, idle-heal}
use Rattle.judge.proofs.row.second_pass.Goals as goal
use Rattle.judge.proofs.row.second_pass.Goals.{then-in_flight, else-in_flight}

pub loop-i-preserved : goal.loop-i-preserved
loop-i-preserved g c =
    let l = c.loop-i in
    let cells = g.V.Verdicts.cells in
    let v = c.verdict-v.result in
    let within : l.i < length (cells l.out) = omega arith in
    let later : (l.i + 1 ≡ 0 → ⊥) = omega arith in
    elim c.if-in_flight.branch [
      | then-in_flight w ↦
          let step =
          settled g.V.Verdicts.cell g.V.Verdicts.read (cells l.out) (cells w.put.new.self) l.i v w.demoted_if-last.result within c.verdict-v.ensures
          w.put.ensures.cells in
          let left-heal = rw step.0 at l.invariant.heal in
          let left-cells = rw step.0 at l.invariant.written in record {
            heal = rw (w.heal-is, w.out-is, ne_eqb (l.i + 1) 0 later, w.heal_or-heal.ensures, w.demoted_if-last.ensures, w.demotes.ensures) left-heal;
            room = rw (w.out-is, w.put.ensures.cells, length-set) l.invariant.room;
            written = rw (w.out-is, ne_eqb (l.i + 1) 0 later, step.1, append_assoc, w.demoted_if-last.ensures, w.demotes.ensures) left-cells;
            hold =
                rw (w.out-is, w.put.ensures.cells)
                (put-holds g.V.Verdicts.cell g.V.Verdicts.read g.met.V.Verdicts.reads_back (cells l.out) l.i w.demoted_if-last.result l.invariant.hold);
            place = rw w.out-is (w.put.ensures.place ∙ l.invariant.place);
          }
      | else-in_flight w ↦
          let none : in_flight v ≡ false = sym c.in_flight.ensures ∙ w.if-in_flight.false in
          let page = c.args.rules.page_demote in
          let demote = cond (eqb l.i 0) c.args.rules.volume_demote page in
          let step = stayed g.V.Verdicts.cell g.V.Verdicts.read (cells l.out) l.i v l.invariant.hold c.verdict-v.ensures in
          let rest = last_verdicts page page (map g.V.Verdicts.read (drop (l.i + 1) (cells l.out))) in
          let left-heal = rw step.0 at l.invariant.heal in
          let left-cells = rw step.0 at l.invariant.written in record {
            heal =
                rw (w.heal-is, w.out-is, ne_eqb (l.i + 1) 0 later)
                (ap (λ h. heals (l.i + 1) h rest) (sym (idle-heal l.i l.heal v none))
                ∙ ap (λ (u : PairVerdict). heals (l.i + 1) (option_or (pair_heal l.i u) l.heal) rest) (sym (idle demote v none))
                ∙ left-heal);
            room = rw w.out-is l.invariant.room;
            written =
                rw (w.out-is, ne_eqb (l.i + 1) 0 later, step.1, append_assoc)
                (ap (λ (u : PairVerdict). take l.i (cells l.out) ++ map g.V.Verdicts.cell (u ∷ rest)) (sym (idle demote v none)) ∙ left-cells);
            hold = rw w.out-is l.invariant.hold;
            place = rw w.out-is l.invariant.place;
          }
    ]
