use Rattle.trim_records.proofs.Laws.{kept_bit_lem}
use Rattle.trim_records.proofs.bit_kept.Goals as goal

pub returns : goal.returns
returns c = kept_bit_lem _ _ _ _ _ c.bit_of.ensures c.bit_admitted.ensures
