use mathlib.Core.Path.{refl}
use borrow.Author.Rules.{rules}
use Rattle.run_requests.proofs.Opening.{open_next, open_kept}
use Rattle.run_requests.proofs.Writing.{writing_next, writing_done, answer_room, answer_sized, same_lengths}
use Rattle.run_requests.proofs.ask_records.Goals as goal

pub loop-i-init : goal.loop-i-init
loop-i-init c = (refl, c.requires.1, c.requires.1, refl)

pub answer_one-a-requires : goal.answer_one-a-requires
answer_one-a-requires c = (c.loop-i.invariant.1, c.loop-i.invariant.2)

pub put_answer-requires : goal.put_answer-requires
put_answer-requires c = rw c.loop-i.invariant.0 (answer_room _ _ _ _ c.records-rec-items.ensures c.loop-i-test.true c.requires.0)

pub loop-i-preserved : goal.loop-i-preserved
loop-i-preserved c = (search (rules, answer_sized, same_lengths), search (rules, open_next), search (rules, open_kept), search (rules, writing_next _ _ _ _ _ _ c.loop-i.invariant.3))

pub returns : goal.returns
returns c = rw (← c.records-rec-items.ensures) (writing_done _ _ _ _ _ _ c.loop-i.invariant.3 c.loop-i-test.false)
