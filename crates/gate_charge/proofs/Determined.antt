-- The reading of a reply loses nothing: two replies with one answer are one reply.
use mathlib.Core.Path.{◌≡◌, refl}
use Rattle.std.specs.Prelude.{if◌then◌else◌}
use Rattle.rules.specs.Gate as rulesGate
use Rattle.refusals.proofs.Determined.{refusal_back, refusal_back_lem, denial_back, denial_back_lem, denies, refusal_not_denied, denial_denied}
use Rattle.gate_charge.specs.declared.Reply.{Reply}
use Rattle.gate_charge.specs.declared.Reply.TheVariants.{Done, Permit, Refuse, Deny}
use Rattle.gate_charge.specs.Charges.{answer_as}

abbrev pub reply_back : rulesGate.Answer → Reply
reply_back rulesGate.done = Done
reply_back (rulesGate.permit place) = Permit place
reply_back (rulesGate.refuse n near) = if denies n then Deny (denial_back n near) else Refuse (refusal_back n)

pub reply_back_lem : (r : Reply) → reply_back (answer_as r) ≡ r
reply_back_lem Done = refl
reply_back_lem (Permit place) = refl
reply_back_lem (Refuse r) = rw (refusal_not_denied r, refusal_back_lem r)
reply_back_lem (Deny d) = rw (denial_denied d, denial_back_lem d)
