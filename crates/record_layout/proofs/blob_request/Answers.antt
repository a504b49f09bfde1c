use Rattle.rules.proofs.Choices.{and_is}
use Rattle.rules.specs.Layout.{blob_request_laid_out}
use Rattle.record_layout.proofs.blob_request.Goals as goal

pub returns : goal.returns
unfolding blob_request_laid_out
returns c = and_is _ _ _ _ (and_is _ _ _ _ (and_is _ _ _ _ c.plain_header.ensures c.zero_unless.ensures) c.token_parameters_if.ensures) c.zero_part.ensures
