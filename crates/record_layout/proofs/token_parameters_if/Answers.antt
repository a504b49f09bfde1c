use Rattle.rules.proofs.Choices.{vias}
use Rattle.rules.specs.Layout.{token_parameters_if}
use borrow.Author.Rules.{rules}
use Rattle.record_layout.proofs.token_parameters_if.Goals as goal

pub returns-then-flag_of : goal.returns-then-flag_of
unfolding token_parameters_if
returns-then-flag_of c = search (rules, vias)

pub returns : goal.returns
unfolding token_parameters_if
returns c = search (rules, vias)
