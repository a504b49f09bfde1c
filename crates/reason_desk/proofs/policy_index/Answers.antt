use Rattle.reason_desk.proofs.Laws.{policy_first}
use Rattle.reason_desk.proofs.policy_index.Goals as goal

pub returns : goal.returns
returns c = policy_first _ _ _ c.records.ensures c.before_policy.ensures
