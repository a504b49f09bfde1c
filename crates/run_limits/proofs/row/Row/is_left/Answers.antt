use mathlib.Core.Path.{ap}
use mathlib.Core.Bool.{not}
use borrow.Author.Rules.{rules}
use Rattle.run_limits.proofs.Laws.{row_own, row_late, row_words}
use Rattle.run_limits.proofs.row.Row.is_left.Goals as goal

pub returns-then-not-below : goal.returns-then-not-below
returns-then-not-below c = search (rules, row_own)

pub returns-then-self-elapsed : goal.returns-then-self-elapsed
returns-then-self-elapsed c = search (rules, row_late)

pub returns : goal.returns
returns c = row_words _ _ _ _ _ c.below.ensures _ (ap not c.if-not-below.false) c.if-self-elapsed.false (rw (← c.named_words.ensures) c.words_left.ensures)
