use Rattle.c_tables.proofs.Tables.{outcome_on}
use Rattle.c_tables.proofs.akubolinfe_request_on_tables.Goals as goal

pub returns : goal.returns
returns c = outcome_on c.request.result _ _ _ _ _ _ c.from.ensures c.request.ensures
