use Rattle.trimming.proofs.Ends.{ends_step}
use Rattle.trimming.proofs.trim_read.Goals as goal

pub returns-in_err-bundle_steps : goal.returns-in_err-bundle_steps
returns-in_err-bundle_steps c = ends_step _ _ _ _ c.requires _ _ c.from_residual.ensures c.in_err-bundle_steps.ensures
