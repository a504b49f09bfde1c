use Rattle.rules.specs.Prepared.{same_form}
use Rattle.run_form.proofs.same_form.Goals as goal

pub returns : goal.returns
unfolding same_form
returns c = cc
