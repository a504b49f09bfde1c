use borrow.Author.Rules.{rules}
use Rattle.run_limits.specs.Rows.{word_left}
use Rattle.run_limits.proofs.word_left.Goals as goal

pub returns : goal.returns
unfolding word_left
returns c = search rules
