use Rattle.rules.proofs.Choices.{and_is}
use Rattle.rules.specs.Layout.{permissions_laid_out}
use Rattle.record_layout.proofs.permissions.Goals as goal

pub returns : goal.returns
unfolding permissions_laid_out
returns c = and_is _ _ _ _ c.plain_header.ensures c.zero_part.ensures
