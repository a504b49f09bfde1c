use Rattle.gate_charge.proofs.Granting.{grant_not, grant_is}
use Rattle.gate_charge.proofs.decide.Goals as goal

pub returns-in-Ok : goal.returns-in-Ok
returns-in-Ok c = rw c.in-Ok.is (grant_not _ _ c.if-not-shown.true)

pub returns-in-Ok-2 : goal.returns-in-Ok-2
returns-in-Ok-2 c = rw c.in-Ok-2.is (grant_is _ _ c.if-not-shown.false)
