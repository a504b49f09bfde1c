use Rattle.gate.proofs.Replacing.{narrow_outcome}
use Rattle.gate.proofs.Ledger.narrow.Goals as goal

pub returns : goal.returns
returns c = narrow_outcome _ _ _ _ _ _ _ _ _ _ _ c.narrow_reply-reply.ensures c.charge_counters.ensures c.charge_count.ensures.1 c.carry_counts.ensures c.last_after.ensures c.time.ensures
