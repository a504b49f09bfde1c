use mathlib.Core.Path.{◌∙◌, ap}
use Rattle.rules.specs.Basics.{number_from}
use Rattle.record_fields.proofs.Words.{big_eight, chunk_length, chunk_part}
use Rattle.record_fields.proofs.be64.Goals as goal

pub returns : goal.returns
returns c =
    let k = rw c.unwrap.ensures at c.first_chunk.ensures.cases in
    c.from_be_bytes.ensures ∙ big_eight _ (chunk_length _ _ _ c.requires k.same) ∙ ap (number_from 0) (chunk_part _ _ _ c.requires k.same)
