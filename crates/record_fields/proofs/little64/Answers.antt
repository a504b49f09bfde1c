use native.Mathlib.Omega.{arith}
use Rattle.record_fields.proofs.Words.{little_eight, chunk_length, chunk_part}
use Rattle.record_fields.proofs.little64.Goals as goal

pub returns : goal.returns
returns c =
    let k = rw c.unwrap.ensures at c.first_chunk.ensures.cases in
    little_eight c.args.s.now _ _ _ (chunk_length _ _ _ c.requires k.same) (chunk_part _ _ _ c.requires k.same) (λ i. omega (arith, c.type_inv.s i)) c.from_le_bytes.ensures
