use mathlib.Core.Path.{ap}
use Rattle.std.specs.Prelude.{Result, Ok}
use Rattle.reason_inputs.specs.declared.Input.TheVariants.{Km0}
use Rattle.reason_files.specs.Places.{place_as}
use Rattle.reason_files.specs.declared.FilePlace.{FilePlace}
use Rattle.reason_inputs.specs.Inputs.{is_fault}
use Rattle.reason_inputs.proofs.Laws.{search_stop, search_next, search_done, err_is_fault}
use Rattle.reason_inputs.proofs.first_fault.Goals as goal

pub loop-located-preserved : goal.loop-located-preserved
loop-located-preserved c = search_next _ _ _ _ _ c.loop-located.invariant c.loop-located-test.true (ap (λ (r : Result (Unit {0}) FilePlace). is_fault (place_as r)) c.in_default.is)

pub returns-in-Err : goal.returns-in-Err
returns-in-Err c = search_stop _ _ _ _ _ c.loop-located.invariant _ c.loop-located-test.true (ap place_as c.in-Err.is) (err_is_fault _)

pub returns : goal.returns
returns c = search_done _ _ _ (record { input = Km0; found = Ok tt }) _ c.loop-located.invariant c.loop-located-test.false
