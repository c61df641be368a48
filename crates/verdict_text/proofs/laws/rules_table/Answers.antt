-- Each table by its rows.
use Rattle.verdict_text.proofs.RulesLaws.{mark_rows, line_rows, range_rows, order_rows, length_rows, printed_rows, place_rows, call_rows, outcome_rows}
use Rattle.verdict_text.proofs.laws.rules_table.Goals as goal

pub returns-clause-marks : goal.returns-clause-marks
returns-clause-marks c = mark_rows

pub returns-clause-lines : goal.returns-clause-lines
returns-clause-lines c = line_rows

pub returns-clause-ranges : goal.returns-clause-ranges
returns-clause-ranges c = range_rows

pub returns-clause-order : goal.returns-clause-order
returns-clause-order c = order_rows

pub returns-clause-lengths : goal.returns-clause-lengths
returns-clause-lengths c = length_rows

pub returns-clause-printed : goal.returns-clause-printed
returns-clause-printed c = printed_rows

pub returns-clause-places : goal.returns-clause-places
returns-clause-places c = place_rows

pub returns-clause-calls : goal.returns-clause-calls
returns-clause-calls c = call_rows

pub returns-clause-outcomes : goal.returns-clause-outcomes
returns-clause-outcomes c = outcome_rows
