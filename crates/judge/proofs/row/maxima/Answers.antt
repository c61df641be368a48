-- What is noted is the operator's.
use Rattle.std.proofs.Common.{ap, ◌∙◌, map}
use Rattle.judge.specs.declared.numbers.OwnMaxima.{OwnMaxima}
use Rattle.judge.proofs.NumberLaws.{own_same}
use Rattle.judge.proofs.RowLaws.{answer}
use Rattle.judge.proofs.row.maxima.Goals as goal

pub returns : goal.returns
returns g c =
    let admitted = c.in_ok-admit.ensures in
    let noted = rw c.new-own.ensures at admitted.noted in
    answer _ _ _ admitted.value (ap (λ (own : OwnMaxima). own.maxima) noted ∙ own_same c.args.operator (map g.P.ReadPair.shown c.args.pairs.now))
