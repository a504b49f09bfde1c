use mathlib.Core.Path.{refl}
use borrow.Author.Rules.{rules}
use Rattle.run_limits.proofs.Laws.{words_done, words_failed, words_next}
use Rattle.run_limits.proofs.words_left.Goals as goal

pub loop-word-init : goal.loop-word-init
loop-word-init c = refl

pub returns-then-not-word_left : goal.returns-then-not-word_left
returns-then-not-word_left c = search (rules, words_failed)

pub loop-word-preserved : goal.loop-word-preserved
loop-word-preserved c = search (rules, words_next)

pub returns : goal.returns
returns c = search (rules, words_done)
