use Prim.Native.Nat.{◌≤◌, ◌+◌}
use mathlib.Core.Path.{refl}
use native.Mathlib.Omega.{arith}
use lib.ListN.{length}
use Rattle.subject.proofs.Laws.{copied_zero, copied_part, copied_last}
use borrow.Author.Rules.{rules}
use Rattle.subject.proofs.copy_long.Goals as goal

pub loop-i-init : goal.loop-i-init
loop-i-init c = search (rules, copied_zero)

pub loop-i-preserved : goal.loop-i-preserved
loop-i-preserved c = let h : c.loop-i.i + 16 ≤ length c.args.bytes.now = omega arith in
    (search rules, (h, (search rules, copied_part _ _ _ _ _ 16 h (search rules) c.loop-i.invariant.1.1.1 c.copy_sixteen.ensures)))

pub returns : goal.returns
returns c = copied_last _ _ _ _ c.loop-i.i _ _ (omega arith) (search rules) refl (search rules) c.loop-i.invariant.1.1.1 c.copy_sixteen-2.ensures
