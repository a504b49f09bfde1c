use Rattle.rules.proofs.Choices.{picks}
use Rattle.rules.specs.Layout.{counter_under}
use borrow.Author.Rules.{rules}
use Rattle.record_layout.proofs.counter_of_sort.Goals as goal

pub returns-then-sort-eq2 : goal.returns-then-sort-eq2
unfolding counter_under
returns-then-sort-eq2 c = search (rules, picks)

pub returns : goal.returns
unfolding counter_under
returns c = search (rules, picks)
