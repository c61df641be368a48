-- `asked_for` meets its contract: what the creation of a store asks for, by Theorem.antt.
use Rattle.creation.proofs.Theorem.{any_row_begins, any_page_is_written, volume_is_written_last, any_first_write}
use Rattle.creation.proofs.asked_for.Goals as goal

pub returns-clause-row : goal.returns-clause-row
returns-clause-row c = any_row_begins

pub returns-clause-page : goal.returns-clause-page
returns-clause-page c = any_page_is_written

pub returns-clause-volume : goal.returns-clause-volume
returns-clause-volume c = volume_is_written_last

pub returns-clause-first : goal.returns-clause-first
returns-clause-first c = any_first_write
