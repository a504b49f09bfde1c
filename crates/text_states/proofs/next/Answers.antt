use Rattle.text_states.proofs.Laws.{next_is}
use borrow.Author.Rules.{rules}
use Rattle.text_states.proofs.next.Goals as goal

pub returns-in-Request : goal.returns-in-Request
returns-in-Request c = search (rules, next_is)

pub returns-in-Blobfile : goal.returns-in-Blobfile
returns-in-Blobfile c = search (rules, next_is)

pub returns-in-Presented : goal.returns-in-Presented
returns-in-Presented c = search (rules, next_is)

pub returns-in-Requests : goal.returns-in-Requests
returns-in-Requests c = search (rules, next_is)

pub returns-in-Bundle : goal.returns-in-Bundle
returns-in-Bundle c = search (rules, next_is)

pub returns-in-Hints : goal.returns-in-Hints
returns-in-Hints c = search (rules, next_is)
