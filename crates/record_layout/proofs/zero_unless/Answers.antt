use Rattle.rules.proofs.Choices.{or_taken, or_left_out}
use Rattle.rules.specs.Layout.{zero_unless}
use borrow.Author.Rules.{rules}
use Rattle.record_layout.proofs.zero_unless.Goals as goal

pub returns-then-flag_of : goal.returns-then-flag_of
unfolding zero_unless
returns-then-flag_of c = search (rules, or_taken)

pub returns : goal.returns
unfolding zero_unless
returns c = search (rules, or_left_out)
