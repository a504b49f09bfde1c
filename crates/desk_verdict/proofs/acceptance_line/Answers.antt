use Rattle.rules.specs.Basics.{ascii}
use Rattle.text_bytes.proofs.Laws.{put_on, put_as}
use Rattle.desk_verdict.proofs.Laws.{acceptance_short, acceptance_long}
use Rattle.desk_verdict.proofs.acceptance_line.Goals as goal

pub returns-then-a-ne2 : goal.returns-then-a-ne2
unfolding ascii
returns-then-a-ne2 c = put_as (acceptance_short _ c.if-a-ne2.true) c.append.ensures

pub returns-then-a : goal.returns-then-a
unfolding ascii
returns-then-a c = put_as (acceptance_long _ _ _ c.if-a-ne2.false c.from-number.ensures c.if-a.true) (put_on c.word_and_number-graded.ensures.written c.append-then-a.ensures)

pub returns : goal.returns
unfolding ascii
returns c = put_as (acceptance_long _ _ _ c.if-a-ne2.false c.from-number.ensures c.if-a.false) (put_on c.word_and_number-graded.ensures.written c.append-2.ensures)
