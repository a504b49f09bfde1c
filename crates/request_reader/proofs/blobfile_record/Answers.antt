use Rattle.rules.specs.Request.{blobfile_request_record}
use Rattle.request_reader.proofs.blobfile_record.Goals as goal

pub returns : goal.returns
unfolding blobfile_request_record
returns c = cc
