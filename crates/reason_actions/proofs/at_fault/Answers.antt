use Rattle.reason_actions.proofs.Laws.{fault_graded, fault_step}
use Rattle.reason_actions.proofs.at_fault.Goals as goal

pub returns-then-graded : goal.returns-then-graded
returns-then-graded c = λ file. fault_graded _ _ _ _ _ _ c.if-graded.true (c.below_lowest.ensures file)

pub returns : goal.returns
returns c = λ file. fault_step _ _ _ _ _ _ c.if-graded.false _ (c.action_steps.ensures file) c.is_err.ensures.value
