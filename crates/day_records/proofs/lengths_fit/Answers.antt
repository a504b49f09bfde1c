use Rattle.day_records.proofs.lengths_fit.Goals as goal

pub returns : goal.returns
returns c = rw (c.whole.ensures, c.whole-2.ensures)
