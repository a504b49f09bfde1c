use Rattle.rules.specs.Request.{hint_record}
use Rattle.request_reader.proofs.hint_record.Goals as goal

pub returns : goal.returns
unfolding hint_record
returns c = cc
