use Rattle.rules.specs.Layout.{blobfile_request_laid_out}
use Rattle.record_layout.proofs.file_request.Goals as goal

pub returns : goal.returns
unfolding blobfile_request_laid_out
returns c = cc
