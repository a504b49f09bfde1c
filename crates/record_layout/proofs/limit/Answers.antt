use Rattle.rules.specs.Layout.{limit_under}
use Rattle.record_layout.proofs.Chain.{chain}
use borrow.Author.Rules.{rules}
use Rattle.record_layout.proofs.limit.Goals as goal

pub returns-then-not-plain_header : goal.returns-then-not-plain_header
unfolding limit_under
returns-then-not-plain_header c = search (rules, chain)

pub returns-then-not-sort : goal.returns-then-not-sort
unfolding limit_under
returns-then-not-sort c = search (rules, chain)

pub returns-then-not-counter_of_sort : goal.returns-then-not-counter_of_sort
unfolding limit_under
returns-then-not-counter_of_sort c = search (rules, chain)

pub returns-then-not-zero_part : goal.returns-then-not-zero_part
unfolding limit_under
returns-then-not-zero_part c = search (rules, chain)

pub returns : goal.returns
unfolding limit_under
returns c = search (rules, chain)
