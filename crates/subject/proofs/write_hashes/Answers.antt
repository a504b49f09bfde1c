use Prim.Native.Nat.{◌≤◌, ◌+◌}
use native.Mathlib.Omega.{arith}
use lib.ListN.{length}
use Rattle.rules.specs.Sizes.{hash_bytes}
use Rattle.subject.proofs.Laws.{copied_zero, copied_part, copied_done}
use borrow.Author.Rules.{rules}
use Rattle.subject.proofs.write_hashes.Goals as goal

pub loop-at-init : goal.loop-at-init
loop-at-init c = search (rules, copied_zero)

pub loop-at-preserved : goal.loop-at-preserved
loop-at-preserved c = let h : c.loop-at.at + hash_bytes ≤ length c.args.hashes.now = omega arith in
    (h, (search rules, (search rules, copied_part _ _ _ _ _ hash_bytes h (search rules) c.loop-at.invariant.1.1.1 c.copy.ensures)))

pub returns : goal.returns
returns c = search (rules, copied_done)
