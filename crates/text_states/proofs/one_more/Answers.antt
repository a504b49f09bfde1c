use Rattle.text_states.proofs.Laws.{more_bad, more_full, more_fits}
use borrow.Author.Rules.{rules}
use Rattle.text_states.proofs.one_more.Goals as goal

pub returns-then-not-good : goal.returns-then-not-good
returns-then-not-good c = search (rules, more_bad)

pub returns-then-most-n : goal.returns-then-most-n
returns-then-most-n c = search (rules, more_full)

pub returns : goal.returns
returns c = search (rules, more_fits)
