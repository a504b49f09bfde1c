use Rattle.gate.proofs.Settling.{settles_charged}
use Rattle.gate.proofs.Ledger.request.Goals as goal

pub returns : goal.returns
returns c = settles_charged _ _ _ _ _ _ _ c.request_reply-reply.ensures c.time.ensures c.charge.ensures
