use Rattle.rules.specs.Layout.{archive_action_laid_out}
use Rattle.record_layout.proofs.Chain.{chain}
use borrow.Author.Rules.{rules}
use Rattle.record_layout.proofs.archive_action.Goals as goal

pub returns-then-not-plain_header : goal.returns-then-not-plain_header
unfolding archive_action_laid_out
returns-then-not-plain_header c = search (rules, chain)

pub returns-then-not-zero_unless : goal.returns-then-not-zero_unless
unfolding archive_action_laid_out
returns-then-not-zero_unless c = search (rules, chain)

pub returns-then-not-mechanism_at : goal.returns-then-not-mechanism_at
unfolding archive_action_laid_out
returns-then-not-mechanism_at c = search (rules, chain)

pub returns : goal.returns
unfolding archive_action_laid_out
returns c = search (rules, chain)
