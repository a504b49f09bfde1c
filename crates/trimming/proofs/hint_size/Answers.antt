use Rattle.rules.proofs.Choices.{picks}
use Rattle.trimming.specs.Trimming.{hint_size}
use borrow.Author.Rules.{rules}
use Rattle.trimming.proofs.hint_size.Goals as goal

pub returns-then-rec-eq-GROUP : goal.returns-then-rec-eq-GROUP
unfolding hint_size
returns-then-rec-eq-GROUP c = search (rules, picks)

pub returns : goal.returns
unfolding hint_size
returns c = search (rules, picks)
