use Rattle.rules.specs.Request.{stands_alone}
use Rattle.request_reader.proofs.stands_alone.Goals as goal

pub returns : goal.returns
unfolding stands_alone
returns c = cc
