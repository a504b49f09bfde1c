use Rattle.rules.proofs.Choices.{and_is}
use Rattle.rules.specs.Layout.{recovery_laid_out}
use Rattle.record_layout.proofs.recovery_request.Goals as goal

pub returns : goal.returns
unfolding recovery_laid_out
returns c = and_is _ _ _ _ (and_is _ _ _ _ c.plain_header.ensures c.mechanism_at.ensures) c.zero_part.ensures
