use mathlib.Core.Path.{refl}
use mathlib.Core.Bool.{Bool}
use lib.ListN.{length}
use lib.Dec.{eqb}
use Rattle.rules.specs.Sizes.{hash_bytes}
use Rattle.gate_files.proofs.Laws.{both_are}
use Rattle.gate_files.proofs.lengths_fit.Goals as goal

pub returns : goal.returns
returns c = let a = c.args in
    let k : Bool = eqb (length a.km0.now) hash_bytes in
    both_are _ _ _ _ (both_are k _ k _ refl c.whole.ensures) c.whole-2.ensures
