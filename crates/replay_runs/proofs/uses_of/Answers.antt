use Rattle.replay_runs.proofs.Laws.{uses_start, uses_next, uses_done}
use borrow.Author.Rules.{rules}
use Rattle.replay_runs.proofs.uses_of.Goals as goal

pub loop-i-init : goal.loop-i-init
loop-i-init c = (search rules, uses_start _)

pub loop-i-preserved : goal.loop-i-preserved
loop-i-preserved c = (search rules, search (rules, uses_next))

pub returns : goal.returns
returns c = search (rules, uses_done)
