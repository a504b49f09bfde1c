use Rattle.gate_restrictions.specs.Certifiers.{certifier_kept}
use Rattle.gate_restrictions.proofs.certifier_kept.Goals as goal

pub returns : goal.returns
unfolding certifier_kept
returns c = cc
