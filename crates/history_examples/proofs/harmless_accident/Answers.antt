-- `harmless_accident` meets its contract: what it says of the cut is proved in OlderHeader.antt.
use Rattle.history_examples.proofs.OlderHeader.{by_accident, without_harm}
use Rattle.history_examples.proofs.harmless_accident.Goals as goal

pub returns-clause-accident : goal.returns-clause-accident
returns-clause-accident c = by_accident

pub returns-clause-harmless : goal.returns-clause-harmless
returns-clause-harmless c = without_harm
