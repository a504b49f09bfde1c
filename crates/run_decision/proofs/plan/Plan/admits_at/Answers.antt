use Rattle.run_decision.proofs.Laws.{admits_lent}
use Rattle.run_decision.proofs.plan.Plan.admits_at.Goals as goal

pub returns : goal.returns
returns c = admits_lent _ _ _ _ _ _ c.group_admits.ensures
