use Rattle.rules.specs.Desk.{module_key}
use Rattle.rules.proofs.Choices.{vias}
use borrow.Author.Rules.{rules}
use Rattle.desk_evidence.proofs.module_key.Goals as goal

pub returns-then-km_trusted : goal.returns-then-km_trusted
unfolding module_key
returns-then-km_trusted c = search (rules, vias)

pub returns : goal.returns
unfolding module_key
returns c = search (rules, vias)
