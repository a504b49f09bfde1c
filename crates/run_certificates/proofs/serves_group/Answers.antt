use Rattle.run_certificates.proofs.Marks.{serving_lent}
use Rattle.run_certificates.proofs.serves_group.Goals as goal

pub returns : goal.returns
returns c = serving_lent _ _ _ _ _ _ c.same_bytes.ensures c.flag_of.ensures c.be16.ensures
