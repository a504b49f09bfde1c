use mathlib.Core.Path.{refl}
use Rattle.gate.proofs.Settling.{settles_outcome}
use Rattle.gate_in_place.proofs.expand.Goals as goal

pub returns : goal.returns
returns c = settles_outcome _ _ _ _ _ _ _ _ _ _ c.expand_reply-reply.ensures c.charge.ensures.0 c.zero_counts.ensures c.charge.ensures.1 refl
