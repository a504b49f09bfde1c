use Rattle.trimming.proofs.Ends.{ends_refused}
use Rattle.trimming.proofs.trim.Goals as goal

pub returns-in_err-read_both : goal.returns-in_err-read_both
returns-in_err-read_both c = ends_refused _ _ _ _ _ _ c.from_residual.ensures c.in_err-read_both.ensures.0
