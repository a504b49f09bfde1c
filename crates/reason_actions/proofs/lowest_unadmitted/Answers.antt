use mathlib.Core.Path.{refl}
use Rattle.reason_actions.proofs.Laws.{unadmitted_here, unadmitted_later, unadmitted_none}
use borrow.Author.Rules.{rules}
use Rattle.reason_actions.proofs.lowest_unadmitted.Goals as goal

pub loop-b-init : goal.loop-b-init
loop-b-init c = refl

pub returns-then-not-bit_admitted : goal.returns-then-not-bit_admitted
returns-then-not-bit_admitted c = search (rules, unadmitted_here)

pub loop-b-preserved : goal.loop-b-preserved
loop-b-preserved c = search (rules, unadmitted_later)

pub returns : goal.returns
returns c = search (rules, unadmitted_none)
