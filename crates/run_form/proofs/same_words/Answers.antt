use mathlib.Core.Path.{refl}
use native.Mathlib.Omega.{arith}
use Rattle.record_fields.proofs.Laws.{same_next, same_done}
use Rattle.run_form.proofs.same_words.Goals as goal

pub loop-i-init : goal.loop-i-init
loop-i-init c = refl

pub loop-i-preserved : goal.loop-i-preserved
loop-i-preserved c = same_next _ _ _ _ c.loop-i.invariant (omega arith) (omega arith)

pub returns : goal.returns
returns c = same_done _ _ c.loop-i.i _ c.loop-i.invariant (omega arith) (let t = c.loop-i-test.false in omega arith)
