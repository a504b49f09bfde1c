use Rattle.c_run_answers.proofs.HostCabinetRunFromCabinetRan.from.Goals as goal

pub returns : goal.returns
returns c buffer = rw (c.run_refusal.ensures, c.run_count.ensures)
