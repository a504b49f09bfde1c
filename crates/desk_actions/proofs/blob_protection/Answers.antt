use Rattle.rules.specs.Desk.{action_protection}
use Rattle.rules.proofs.Choices.{vias}
use Rattle.desk_actions.proofs.Laws.{soft_is}
use borrow.Author.Rules.{rules}
use Rattle.desk_actions.proofs.blob_protection.Goals as goal

pub returns-then-flag_of : goal.returns-then-flag_of
unfolding action_protection
returns-then-flag_of c = search (rules, vias)

pub returns-then-flag_of-bit_of : goal.returns-then-flag_of-bit_of
unfolding action_protection
returns-then-flag_of-bit_of c = search (rules, vias, soft_is)

pub returns : goal.returns
unfolding action_protection
returns c = search (rules, vias, soft_is)
