use Rattle.desk.proofs.Laws.{approach_two, approach_one}
use Rattle.desk.proofs.judge_read.Goals as goal

pub returns-then-policy-eq2 : goal.returns-then-policy-eq2
returns-then-policy-eq2 c = approach_two _ _ _ _ c.policy-policy.ensures c.if-policy-eq2.true c.judge_whole.ensures

pub returns : goal.returns
returns c = approach_one _ _ _ _ c.policy-policy.ensures c.if-policy-eq2.false c.judge_generation.ensures
