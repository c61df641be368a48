-- Every pair is in range, and a verdict is kept as it is.
use Rattle.std.proofs.Common.{rules}
use Rattle.std.proofs.lemmas.List.{map-id}
use Rattle.judge.specs.Records.{judge_records, records_left}
use Rattle.judge.proofs.RowLaws.{all-true, flag-back, left-after}
use Rattle.judge.proofs.records.judge.Goals as goal

pub returns-clause-value : goal.returns-clause-value
unfolding judge_records
returns-clause-value c =
    let flag = flag-back c.args.clean_close in
    simp (all-true, flag.0, flag.1) at c.judge-answer.ensures.value

pub returns-clause-out_after : goal.returns-clause-out_after
unfolding records_left
returns-clause-out_after c =
    let flag = flag-back c.args.clean_close in
    let answer = simp (all-true, map-id, flag.0, flag.1) at c.judge-answer.ensures in
    let after = left-after _ _ _ _ _ _ answer.value answer.cells (λ none done. done) answer.kept (λ k i. (k i).0.now) in
    search rules
