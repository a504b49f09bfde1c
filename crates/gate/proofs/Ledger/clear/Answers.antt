use Rattle.rules.specs.Gate.{clear}
use Rattle.rules.proofs.Choices.{picks}
use borrow.Author.Rules.{rules}
use Rattle.gate.proofs.Ledger.clear.Goals as goal

pub returns-then-counter-ge-COUNTERS : goal.returns-then-counter-ge-COUNTERS
unfolding clear
returns-then-counter-ge-COUNTERS c = search (rules, picks)

pub returns : goal.returns
unfolding clear
returns c = search (rules, picks)
