use Rattle.gate_certification.proofs.Levels.{chained_none, level_first, level_next, chained_last}
use borrow.Author.Rules.{rules}
use Rattle.gate_certification.proofs.presented.Presented.has_chain.Goals as goal

pub returns-then-ends-eq0 : goal.returns-then-ends-eq0
returns-then-ends-eq0 c = search (rules, chained_none)

pub loop-init : goal.loop-init
loop-init c = search (rules, level_first)

pub loop-preserved : goal.loop-preserved
loop-preserved c = search (rules, level_next)

pub returns : goal.returns
returns c = search (rules, chained_last)
