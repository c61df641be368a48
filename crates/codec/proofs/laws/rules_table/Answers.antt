-- Each table is the record of its rows.
use Rattle.codec.proofs.RulesLaws.{checksum_rows, read_rows, write_rows}
use Rattle.codec.proofs.laws.rules_table.Goals as goal

pub returns-clause-checksums : goal.returns-clause-checksums
returns-clause-checksums c = checksum_rows

pub returns-clause-reading : goal.returns-clause-reading
returns-clause-reading c = read_rows

pub returns-clause-writing : goal.returns-clause-writing
returns-clause-writing c = write_rows
