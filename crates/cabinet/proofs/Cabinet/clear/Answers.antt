use Rattle.rules.specs.Cabinet.{cabinet_clear}
use Rattle.rules.proofs.Choices.{picks}
use borrow.Author.Rules.{rules}
use Rattle.cabinet.proofs.Cabinet.clear.Goals as goal

pub returns-then-counter-ge-COUNTERS : goal.returns-then-counter-ge-COUNTERS
unfolding cabinet_clear
returns-then-counter-ge-COUNTERS c = search (rules, picks)

pub returns : goal.returns
unfolding cabinet_clear
returns c = search (rules, picks)
