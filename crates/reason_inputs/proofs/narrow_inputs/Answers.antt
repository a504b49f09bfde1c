use Rattle.reason_files.specs.Places.{place_in}
use Rattle.reason_inputs.proofs.narrow_inputs.Goals as goal

pub returns : goal.returns
unfolding place_in
returns c = rw (c.km0_input.ensures, c.acl_input.ensures, c.use_place.ensures, c.locate.ensures, c.locate-2.ensures) at c.input_at_fault.ensures
