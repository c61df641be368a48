-- `asked_store` meets its contract: what a sound store and a correct write ask for, by StatementLaws.antt.
use Rattle.cut.proofs.StatementLaws.{any_rest, any_typed, any_slot, any_first, any_both, any_page, any_pairs, any_row, any_written, any_correct, any_correct_write}
use Rattle.cut.proofs.asked_store.Goals as goal

pub returns-clause-rest : goal.returns-clause-rest
returns-clause-rest c = any_rest

pub returns-clause-typed : goal.returns-clause-typed
returns-clause-typed c = any_typed

pub returns-clause-slot : goal.returns-clause-slot
returns-clause-slot c = any_slot

pub returns-clause-first : goal.returns-clause-first
returns-clause-first c = any_first

pub returns-clause-both : goal.returns-clause-both
returns-clause-both c = any_both

pub returns-clause-page : goal.returns-clause-page
returns-clause-page c = any_page

pub returns-clause-pairs : goal.returns-clause-pairs
returns-clause-pairs c = any_pairs

pub returns-clause-row : goal.returns-clause-row
returns-clause-row c = any_row

pub returns-clause-written : goal.returns-clause-written
returns-clause-written c = any_written

pub returns-clause-correct : goal.returns-clause-correct
returns-clause-correct c = any_correct

pub returns-clause-correct_write : goal.returns-clause-correct_write
returns-clause-correct_write c = any_correct_write
