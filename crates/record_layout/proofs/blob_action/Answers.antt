use Rattle.rules.specs.Layout.{blob_action_laid_out}
use Rattle.record_layout.proofs.Chain.{chain}
use borrow.Author.Rules.{rules}
use Rattle.record_layout.proofs.blob_action.Goals as goal

pub returns-then-not-plain_header : goal.returns-then-not-plain_header
unfolding blob_action_laid_out
returns-then-not-plain_header c = search (rules, chain)

pub returns-then-not-zero_unless : goal.returns-then-not-zero_unless
unfolding blob_action_laid_out
returns-then-not-zero_unless c = search (rules, chain)

pub returns-then-not-zero_unless-2 : goal.returns-then-not-zero_unless-2
unfolding blob_action_laid_out
returns-then-not-zero_unless-2 c = search (rules, chain)

pub returns-then-not-token_parameters_if : goal.returns-then-not-token_parameters_if
unfolding blob_action_laid_out
returns-then-not-token_parameters_if c = search (rules, chain)

pub returns : goal.returns
unfolding blob_action_laid_out
returns c = search (rules, chain)
