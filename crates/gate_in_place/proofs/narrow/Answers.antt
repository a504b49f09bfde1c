use mathlib.Core.Path.{refl}
use Rattle.gate.proofs.Replacing.{narrow_outcome}
use Rattle.gate_in_place.proofs.narrow.Goals as goal

pub returns : goal.returns
returns c = narrow_outcome _ _ _ _ _ _ _ _ _ _ _ c.narrow_reply-reply.ensures c.charge.ensures.0 c.charge_count.ensures.1 c.carry_counts.ensures c.charge.ensures.1 refl
