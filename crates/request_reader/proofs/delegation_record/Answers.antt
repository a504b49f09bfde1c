use Rattle.rules.specs.Request.{delegation_record}
use Rattle.request_reader.proofs.delegation_record.Goals as goal

pub returns : goal.returns
unfolding delegation_record
returns c = cc
