use mathlib.Core.Bool.{not}
use mathlib.Core.Path.{ap}
use Rattle.desk_actions.proofs.Laws.{permissions_fail, permissions_pass}
use Rattle.desk_actions.proofs.permission_step.Goals as goal

pub returns-then-not-bits_admitted : goal.returns-then-not-bits_admitted
returns-then-not-bits_admitted c = permissions_fail _ _ _ _ c.be16.ensures c.bits_admitted.ensures (ap not c.if-not-bits_admitted.true)

pub returns : goal.returns
returns c = permissions_pass _ _ _ _ c.be16.ensures c.bits_admitted.ensures (ap not c.if-not-bits_admitted.false)
