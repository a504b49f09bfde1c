use Rattle.rules.specs.Request.{certificate_record}
use Rattle.request_reader.proofs.certificate_record.Goals as goal

pub returns : goal.returns
unfolding certificate_record
returns c = cc
