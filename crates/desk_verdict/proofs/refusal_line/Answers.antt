use Rattle.rules.specs.Basics.{ascii}
use Rattle.text_bytes.proofs.Laws.{put_on, put_as}
use Rattle.desk_verdict.proofs.Laws.{refusal_text}
use Rattle.desk_verdict.proofs.refusal_line.Goals as goal

pub returns : goal.returns
unfolding ascii
returns c = put_as (refusal_text _ _ c.from-number.ensures) (put_on c.word_and_number-named.ensures.written c.append.ensures)
