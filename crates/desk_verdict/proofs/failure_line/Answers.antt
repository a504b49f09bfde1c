use Rattle.rules.specs.Basics.{ascii}
use Rattle.text_bytes.proofs.Laws.{put_on, put_as}
use Rattle.desk_verdict.proofs.Laws.{failure_text}
use Rattle.desk_verdict.proofs.failure_line.Goals as goal

pub returns : goal.returns
unfolding ascii
returns c = put_as (failure_text _) (put_on c.append-begun.ensures (put_on c.append_step-named.ensures.written c.append.ensures))
