use Rattle.rules.proofs.Choices.{and_is}
use Rattle.rules.specs.Layout.{hint_laid_out}
use Rattle.record_layout.proofs.hint.Goals as goal

pub returns : goal.returns
unfolding hint_laid_out
returns c = and_is _ _ _ _ (and_is _ _ _ _ c.plain_header.ensures c.zero_part.ensures) c.zero_part-2.ensures
