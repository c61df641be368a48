-- Each table is the record of its rows. They are named here, since `search` gives up at its limits over so many bytes.
use Rattle.slot.proofs.RulesLaws.{size_rows, field_rows, status_rows, order_rows, fact_rows, write_rows, place_rows, number_rows}
use Rattle.slot.proofs.laws.rules_table.Goals as goal

pub returns-clause-sizes : goal.returns-clause-sizes
returns-clause-sizes c = size_rows

pub returns-clause-fields : goal.returns-clause-fields
returns-clause-fields c = field_rows

pub returns-clause-statuses : goal.returns-clause-statuses
returns-clause-statuses c = status_rows

pub returns-clause-order : goal.returns-clause-order
returns-clause-order c = order_rows

pub returns-clause-facts : goal.returns-clause-facts
returns-clause-facts c = fact_rows

pub returns-clause-writing : goal.returns-clause-writing
returns-clause-writing c = write_rows

pub returns-clause-places : goal.returns-clause-places
returns-clause-places c = place_rows

pub returns-clause-numbers : goal.returns-clause-numbers
returns-clause-numbers c = number_rows
