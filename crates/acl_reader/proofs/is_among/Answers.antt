use Rattle.acl_reader.proofs.Laws.{among_stop, among_next, among_done}
use borrow.Author.Rules.{rules}
use Rattle.acl_reader.proofs.is_among.Goals as goal

pub returns-then-left-key : goal.returns-then-left-key
returns-then-left-key c = search (rules, among_stop)

pub loop-preserved : goal.loop-preserved
loop-preserved c = search (rules, among_next)

pub returns : goal.returns
returns c = search (rules, among_done)
