use native.Mathlib.Omega.{arith}
use mathlib.Core.Path.{◌∙◌, ap}
use lib.ListN.{take, length-drop}
use lib.Seq.{take_all}
use Rattle.record_fields.proofs.record_at.Goals as goal

pub returns : goal.returns
returns c =
    let k = rw c.unwrap.ensures at c.first_chunk.ensures.cases in
    k.same ∙ ap (take 64) (take_all _ _ (omega (arith, length-drop c.args.at c.args.file.now)))
