use borrow.Author.Rules.{rules}
use Rattle.run_limits.proofs.Laws.{raising_start, raising_done, raising_room, raising_next}
use Rattle.run_limits.proofs.raise_words.Goals as goal

pub loop-word-init : goal.loop-word-init
loop-word-init c = raising_start _ _ c.requires

pub raise_word-requires : goal.raise_word-requires
raise_word-requires c = raising_room _ _ _ _ _ c.loop-word.invariant c.loop-word-test.true

pub loop-word-preserved : goal.loop-word-preserved
loop-word-preserved c = search (rules, raising_next)

pub returns : goal.returns
returns c = raising_done _ _ _ _ _ c.loop-word.invariant c.loop-word-test.false
