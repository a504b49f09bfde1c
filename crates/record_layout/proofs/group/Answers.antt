use Rattle.rules.proofs.Choices.{and_is}
use Rattle.rules.specs.Layout.{group_laid_out}
use Rattle.record_layout.proofs.group.Goals as goal

pub returns : goal.returns
unfolding group_laid_out
returns c = and_is _ _ _ _ (and_is _ _ _ _ (and_is _ _ _ _ c.plain_header.ensures c.zero_unless.ensures) c.certifier_mechanism.ensures) c.zero_part.ensures
