use Rattle.runs.proofs.lengths_fit.Goals as goal

pub returns : goal.returns
returns c = cc
