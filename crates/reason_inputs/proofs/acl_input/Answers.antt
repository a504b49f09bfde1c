use mathlib.Core.Path.{ap}
use Rattle.reason_files.specs.Places.{place_in}
use Rattle.reason_inputs.specs.Inputs.{input_at}
use Rattle.reason_inputs.specs.declared.Input.TheVariants.{Acl}
use Rattle.reason_inputs.proofs.acl_input.Goals as goal

pub returns : goal.returns
unfolding place_in
returns c = ap (input_at Acl) c.locate.ensures
