-- `asked_for` meets its contract: what a history asks for, by Theorem.antt.
use Rattle.history.proofs.Theorem.{any_store_begins, any_write_allowed, any_volume_write_allowed, any_heal_allowed, any_cut_goes_on}
use Rattle.history.proofs.asked_for.Goals as goal

pub returns-clause-store : goal.returns-clause-store
returns-clause-store c = any_store_begins

pub returns-clause-write : goal.returns-clause-write
returns-clause-write c = any_write_allowed

pub returns-clause-volume : goal.returns-clause-volume
returns-clause-volume c = any_volume_write_allowed

pub returns-clause-heal : goal.returns-clause-heal
returns-clause-heal c = any_heal_allowed

pub returns-clause-cut : goal.returns-clause-cut
returns-clause-cut c = any_cut_goes_on
