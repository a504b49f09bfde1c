use mathlib.Core.Path.{refl}
use Rattle.gate.proofs.Settling.{settles_outcome}
use Rattle.gate_in_place.proofs.request.Goals as goal

pub returns : goal.returns
returns c = settles_outcome _ _ _ _ _ _ _ _ _ _ c.request_reply-reply.ensures c.charge.ensures.0 c.charge_count.ensures.1 c.charge.ensures.1 refl
