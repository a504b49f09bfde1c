use Rattle.desk.proofs.Laws.{grade_fails, grade_passes}
use Rattle.desk.proofs.grade_steps.Goals as goal

pub returns-then-protection-policy : goal.returns-then-protection-policy
returns-then-protection-policy c = grade_fails _ _ _ c.policy-policy.ensures c.if-protection-policy.true

pub returns : goal.returns
returns c = grade_passes _ _ _ c.policy-policy.ensures _ c.if-protection-policy.false c.csr_step.ensures
