-- The next pair has no winner, or its winner has another owner than the first one found, or it has the same one or is the first.
use Rattle.std.proofs.Common.{◌≡◌, sym, ◌∙◌, unwrap_or, arith}
use Rattle.judge.proofs.OwnerLaws.{differ-first, other_found, owners-left}
use Rattle.judge.proofs.row.owners_differ.Goals as goal

pub loop-i-preserved-in_default : goal.loop-i-preserved-in_default
loop-i-preserved-in_default g c =
    let l = c.loop-i in
    let left =
    owners-left g.P.ReadPair.shown g.V.Verdicts.read c.args.pairs.now (g.V.Verdicts.cells c.args.out.now) l.i l.first c.loop-i-test.true
    c.index-pairs-i.is c.verdict.ensures c.owner.ensures l.invariant.answer in
    record { answer = rw c.in_default.is at left }

pub returns-then-owner-unwrap_or : goal.returns-then-owner-unwrap_or
returns-then-owner-unwrap_or g c =
    let l = c.loop-i in
    let left =
    owners-left g.P.ReadPair.shown g.V.Verdicts.read c.args.pairs.now (g.V.Verdicts.cells c.args.out.now) l.i l.first c.loop-i-test.true
    c.index-pairs-i.is c.verdict.ensures c.owner.ensures l.invariant.answer in
    sym (other_found l.first c.in-Some.owner _ (rw c.unwrap_or.ensures at c.if-owner-unwrap_or.true)) ∙ (rw c.in-Some.is at left)

pub loop-i-preserved : goal.loop-i-preserved
loop-i-preserved g c =
    let l = c.loop-i in
    let left =
    owners-left g.P.ReadPair.shown g.V.Verdicts.read c.args.pairs.now (g.V.Verdicts.cells c.args.out.now) l.i l.first c.loop-i-test.true
    c.index-pairs-i.is c.verdict.ensures c.owner.ensures l.invariant.answer in
    let same : c.in-Some.owner ≡ unwrap_or l.first c.in-Some.owner = rw c.unwrap_or.ensures at c.if-owner-unwrap_or.false in
    let found = rw c.in-Some.is at left in
    record { answer = grind (arith, same, found, differ-first) }
