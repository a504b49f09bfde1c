use Rattle.reason_limits.proofs.Laws.{own_left, other_left}
use borrow.Author.Rules.{rules}
use Rattle.reason_limits.proofs.is_left.Goals as goal

pub returns-then-limit-eq1 : goal.returns-then-limit-eq1
returns-then-limit-eq1 c = search (rules, own_left)

pub returns : goal.returns
returns c = search (rules, other_left)
