use Rattle.rules.specs.Acl.{blobfile_record}
use Rattle.acl_reader.proofs.blobfile_record.Goals as goal

pub returns : goal.returns
unfolding blobfile_record
returns c = cc
