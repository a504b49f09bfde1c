use Rattle.desk.proofs.Laws.{sound_files, faulty_files}
use Rattle.desk.proofs.assess.Goals as goal

pub returns-in-Err : goal.returns-in-Err
returns-in-Err c = faulty_files _ _ _ c.in-Err.ensures.0

pub returns-in-Ok : goal.returns-in-Ok
returns-in-Ok c = sound_files _ _ _ c.in_default.ensures.0 c.in-Ok.ensures

pub returns-in-Err-judge_read : goal.returns-in-Err-judge_read
returns-in-Err-judge_read c = sound_files _ _ _ c.in_default.ensures.0 c.in-Err-judge_read.ensures
