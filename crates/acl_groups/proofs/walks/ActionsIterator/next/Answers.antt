use native.Mathlib.Omega.{arith}
use mathlib.Core.Path.{ap}
use lib.ListN.{length}
use Rattle.acl_groups.proofs.Laws.{actions_out, action_next}
use Rattle.acl_groups.proofs.walks.ActionsIterator.next.Goals as goal

pub returns-in_err-act-clause-steps : goal.returns-in_err-act-clause-steps
returns-in_err-act-clause-steps c =
    let e = actions_out _ _ c.in_err-act.ensures.cases c.next_action-at.ensures in
    rw c.from_residual.ensures (e, e)

pub returns-clause-steps : goal.returns-clause-steps
returns-clause-steps c = let h = c.in_ok-act.ensures.cases in action_next _ _ _ _ h.0 h.1 h.2 c.next_action-at.ensures

pub returns-clause-goes : goal.returns-clause-goes
returns-clause-goes c =
    let h = c.in_ok-act.ensures.cases in
    let e = ap length (action_next _ _ _ _ h.0 h.1 h.2 c.next_action-at.ensures) in
    record { on = λ f. (tt, tt, omega arith); keeps = tt; rests = λ f. tt }
