use Rattle.gate_restrictions.specs.Certifiers.{certifier_kept}
use Rattle.gate_narrowing.proofs.group_narrows.Goals as goal

pub returns : goal.returns
unfolding certifier_kept
returns c = cc
