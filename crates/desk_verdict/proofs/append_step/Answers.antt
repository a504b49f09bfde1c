use native.Mathlib.Omega.{arith}
use mathlib.Core.Path.{ap}
use lib.ListN.{length}
use Rattle.desk_steps.specs.Steps.{step_as}
use Rattle.text_bytes.proofs.Laws.{put_as}
use Rattle.desk_verdict.proofs.Laws.{step_short}
use Rattle.desk_verdict.proofs.append_step.Goals as goal

pub append-requires : goal.append-requires
append-requires c = omega (arith, ap length c.step_name.ensures, step_short (step_as c.args.s), c.requires)

pub returns : goal.returns
returns c =
    let w = put_as c.step_name.ensures c.append.ensures in
    record { written = w; bound = omega (arith, step_short (step_as c.args.s), w.end) }
