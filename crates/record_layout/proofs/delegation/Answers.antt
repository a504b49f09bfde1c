use Rattle.rules.specs.Layout.{delegation_laid_out}
use Rattle.record_layout.proofs.delegation.Goals as goal

pub returns : goal.returns
unfolding delegation_laid_out
returns c = cc
