use Rattle.rules.specs.Desk.{recovery_key}
use Rattle.rules.proofs.Choices.{vias}
use borrow.Author.Rules.{rules}
use Rattle.desk_evidence.proofs.recovery_key.Goals as goal

pub returns-then-kre_vouched : goal.returns-then-kre_vouched
unfolding recovery_key
returns-then-kre_vouched c = search (rules, vias)

pub returns : goal.returns
unfolding recovery_key
returns c = search (rules, vias)
