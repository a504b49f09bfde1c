use native.Mathlib.Omega.{arith}
use mathlib.Core.Path.{ap}
use lib.ListN.{length}
use Rattle.acl_groups.proofs.Laws.{groups_out, group_next}
use Rattle.acl_groups.proofs.walks.GroupsIterator.next.Goals as goal

pub returns-in_err-first-clause-steps : goal.returns-in_err-first-clause-steps
returns-in_err-first-clause-steps c =
    let e = groups_out _ _ c.in_err-first.ensures.cases c.group_at-at.ensures in
    rw c.from_residual.ensures (e, e)

pub returns-clause-steps : goal.returns-clause-steps
returns-clause-steps c = let h = c.in_ok-first.ensures.cases in group_next _ _ _ _ h.0 h.1 h.2 c.group_at-at.ensures

pub returns-clause-goes : goal.returns-clause-goes
returns-clause-goes c =
    let h = c.in_ok-first.ensures.cases in
    let e = ap length (group_next _ _ _ _ h.0 h.1 h.2 c.group_at-at.ensures) in
    record { on = λ f. (tt, tt, omega arith); keeps = tt; rests = λ f. tt }
