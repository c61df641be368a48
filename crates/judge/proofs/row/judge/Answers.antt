-- What the passes leave of a row without an error is its judgement.
use Rattle.std.proofs.Common.{ap, ◌==◌, map, Ok}
use Rattle.judge.proofs.RowLaws.{answered, written-hold, cells-judged, row-judged}
use Rattle.judge.proofs.row.judge.Goals as goal

pub second_pass-heal-requires-clause-hold : goal.second_pass-heal-requires-clause-hold
second_pass-heal-requires-clause-hold g c =
    written-hold g.V.Verdicts.cell g.V.Verdicts.read g.met.V.Verdicts.reads_back _ _ c.first_pass-tally.ensures.cells

pub returns-clause-value : goal.returns-clause-value
returns-clause-value g c =
    let t = c.first_pass-tally.ensures in
    let s = c.second_pass-heal.ensures in
    let accepted = (answered _ _ _ (rw c.fits.ensures at c.in_ok-admit.ensures.value)).0 in
    let noted = rw c.new-maxima.ensures at c.in_ok-admit.ensures.noted in
    rw accepted
    (ap Ok
    (row-judged g.V.Verdicts.cell g.V.Verdicts.read g.met.V.Verdicts.reads_back (map g.P.ReadPair.shown c.args.pairs.now) (c.args.clean == 1) c.in_ok-admit.ensures.range noted t.tally
    t.cells c.verdict-volume.ensures c.rules-rules.ensures s.cells s.heal c.verdict-last.ensures c.writable.ensures c.owners_differ.ensures))

pub returns-clause-cells : goal.returns-clause-cells
returns-clause-cells g c =
    let t = c.first_pass-tally.ensures in
    let noted = rw c.new-maxima.ensures at c.in_ok-admit.ensures.noted in
    cells-judged g.V.Verdicts.cell g.V.Verdicts.read g.met.V.Verdicts.reads_back (map g.P.ReadPair.shown c.args.pairs.now) (c.args.clean == 1) c.in_ok-admit.ensures.range noted
    t.tally t.cells c.verdict-volume.ensures c.rules-rules.ensures c.second_pass-heal.ensures.cells
