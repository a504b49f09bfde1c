use Rattle.c_tables.proofs.Tables.{outcome_on}
use Rattle.c_tables.proofs.akubolinfe_expand_on_tables.Goals as goal

pub returns : goal.returns
returns c = outcome_on c.expand.result _ _ _ _ _ _ c.from.ensures c.expand.ensures
