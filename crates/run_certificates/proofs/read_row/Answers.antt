use Rattle.run_certificates.proofs.Laws.{saw}
use Rattle.run_certificates.proofs.read_row.Goals as goal

pub returns : goal.returns
returns c = saw _ _ _ _ _ c.all_named.ensures.named c.readable.ensures c.certified_groups.ensures c.all_named.ensures.decoded
