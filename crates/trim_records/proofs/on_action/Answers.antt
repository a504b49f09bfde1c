use Rattle.rules.proofs.Choices.{picks, vias}
use Rattle.trim_records.specs.Fates.{on_action}
use borrow.Author.Rules.{rules}
use Rattle.trim_records.proofs.on_action.Goals as goal

pub returns-then-not-checked : goal.returns-then-not-checked
unfolding on_action
returns-then-not-checked c = search (rules, picks)

pub returns-then-passes : goal.returns-then-passes
unfolding on_action
returns-then-passes c = search (rules, picks, vias)

pub returns-then-rec-eq-OP_PERMISSIONS : goal.returns-then-rec-eq-OP_PERMISSIONS
unfolding on_action
returns-then-rec-eq-OP_PERMISSIONS c = search (rules, picks, vias)

pub returns : goal.returns
unfolding on_action
returns c = search (rules, picks, vias)
