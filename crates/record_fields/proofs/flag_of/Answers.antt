use Rattle.record_fields.proofs.flag_of.Goals as goal

pub returns : goal.returns
returns c = cc
