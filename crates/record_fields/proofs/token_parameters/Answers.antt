use Rattle.rules.specs.Layout.{token_parameters_at}
use Rattle.record_fields.proofs.token_parameters.Goals as goal

pub returns : goal.returns
unfolding token_parameters_at
returns c = cc
