use Prim.Native.Nat.{◌<◌}
use mathlib.Core.Path.{◌∙◌}
use Rattle.trimming.proofs.Laws.{fewer_put}
use borrow.Author.Rules.{rules}
use Rattle.trimming.proofs.put_fewer.Goals as goal

pub returns : goal.returns
returns c =
    let n : c.kept_bits-kept.result < 65536 = search rules in
    fewer_put _ _ _ _ _ _ _ _ n c.told-rec c.policy.ensures c.be16.ensures c.kept_bits-kept.ensures c.copy.ensures (c.copy_from_slice.ensures.after ∙ c.to_be_bytes.ensures)
