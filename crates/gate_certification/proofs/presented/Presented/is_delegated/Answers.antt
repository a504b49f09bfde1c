use Rattle.gate_certification.proofs.Laws.{delegated_use, delegated_blob}
use Rattle.gate_certification.proofs.presented.Presented.is_delegated.Goals as goal

pub returns-then-self-eq-USE : goal.returns-then-self-eq-USE
returns-then-self-eq-USE c = delegated_use c.args.self.now.req.now c.args.self.now.whole _ _ _ _ _ c.if-self-eq-USE.true c.has_chain.ensures

pub returns-else-self-eq-USE : goal.returns-else-self-eq-USE
returns-else-self-eq-USE c = delegated_blob c.args.self.now.req.now c.args.self.now.whole _ _ _ _ c.if-self-eq-USE.false
