use mathlib.Core.Path.{sym, ◌∙◌}
use native.Mathlib.Omega.{arith}
use lib.Seq.{take_all}
use Rattle.subject.proofs.Laws.{over_whole}
use Rattle.subject.proofs.copy_eight.Goals as goal

pub returns : goal.returns
returns c =
    let k = rw c.unwrap.ensures at c.first_chunk.ensures.cases in
    c.copy_from_slice.ensures.after ∙ k.same ∙ take_all 8 c.args.bytes.now (omega arith) ∙ sym (over_whole _ _ (omega arith))
