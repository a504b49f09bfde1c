use Rattle.desk_actions.proofs.Laws.{called_is}
use borrow.Author.Rules.{rules}
use Rattle.desk_actions.proofs.called_for.Goals as goal

pub returns : goal.returns
returns c = called_is _ _ c.suite_of-due.result _ c.suite_of-due.ensures (search rules)
