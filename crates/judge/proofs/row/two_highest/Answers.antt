-- What is noted is the operator's.
use Rattle.std.proofs.Common.{ap, ◌∙◌, arith, map}
use Rattle.std.proofs.lemmas.List.{drop_all}
use Rattle.judge.specs.declared.numbers.OwnMaxima.{OwnMaxima}
use Rattle.judge.proofs.NumberLaws.{own_same}
use Rattle.judge.proofs.row.two_highest.Goals as goal

pub returns : goal.returns
returns g c =
    let l = c.loop-p in
    let noted = rw (drop_all l.p-index c.args.pairs.now (omega (arith, c.loop-p-test.false))) at l.invariant.numbers in
    ap (λ (own : OwnMaxima). own.maxima) noted ∙ own_same c.args.operator (map g.P.ReadPair.shown c.args.pairs.now)
