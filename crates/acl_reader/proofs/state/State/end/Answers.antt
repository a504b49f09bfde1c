use Rattle.acl_reader.proofs.Laws.{end_due, end_sound}
use borrow.Author.Rules.{rules}
use Rattle.acl_reader.proofs.state.State.end.Goals as goal

pub returns-then-self : goal.returns-then-self
returns-then-self c = search (rules, end_due)

pub returns : goal.returns
returns c = search (rules, end_sound)
