-- The rows are computed in RulesLaws.antt.
use Rattle.plan.proofs.RulesLaws.{plan_rows, number_rows, heal_rows, write_rows, error_rows}
use Rattle.plan.proofs.laws.rules_table.Goals as goal

pub returns-clause-plans : goal.returns-clause-plans
returns-clause-plans c = plan_rows

pub returns-clause-numbers : goal.returns-clause-numbers
returns-clause-numbers c = number_rows

pub returns-clause-heals : goal.returns-clause-heals
returns-clause-heals c = heal_rows

pub returns-clause-writes : goal.returns-clause-writes
returns-clause-writes c = write_rows

pub returns-clause-errors : goal.returns-clause-errors
returns-clause-errors c = error_rows
