use Rattle.gate.proofs.Settling.{settles_outcome}
use Rattle.gate.proofs.Ledger.expand.Goals as goal

pub returns : goal.returns
returns c = settles_outcome _ _ _ _ _ _ _ _ _ _ c.expand_reply-reply.ensures c.charge_counters.ensures c.zero_counts.ensures c.last_after.ensures c.time.ensures
