-- Each table is the record of its rows.
use Rattle.pair.proofs.RulesLaws.{status_rows, generation_rows, link_rows, report_rows, info_rows, payload_rows}
use Rattle.pair.proofs.laws.rules_table.Goals as goal

pub returns-clause-statuses : goal.returns-clause-statuses
returns-clause-statuses c = status_rows

pub returns-clause-generations : goal.returns-clause-generations
returns-clause-generations c = generation_rows

pub returns-clause-links : goal.returns-clause-links
returns-clause-links c = link_rows

pub returns-clause-reports : goal.returns-clause-reports
returns-clause-reports c = report_rows

pub returns-clause-infos : goal.returns-clause-infos
returns-clause-infos c = info_rows

pub returns-clause-payloads : goal.returns-clause-payloads
returns-clause-payloads c = payload_rows
