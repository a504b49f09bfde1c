use Rattle.acl_groups.proofs.Laws.{next_none, next_group, next_here}
use borrow.Author.Rules.{rules}
use Rattle.acl_groups.proofs.next_action.Goals as goal

pub returns-then-s-i-lt-RECORD : goal.returns-then-s-i-lt-RECORD
returns-then-s-i-lt-RECORD c = search (rules, next_none)

pub returns-then-s-i-eq-GROUP : goal.returns-then-s-i-eq-GROUP
returns-then-s-i-eq-GROUP c = search (rules, next_group)

pub returns : goal.returns
returns c = search (rules, next_here)
