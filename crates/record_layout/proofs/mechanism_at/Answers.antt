use Rattle.rules.specs.Layout.{mechanism_at}
use Rattle.record_layout.proofs.mechanism_at.Goals as goal

pub returns : goal.returns
unfolding mechanism_at
returns c = cc
