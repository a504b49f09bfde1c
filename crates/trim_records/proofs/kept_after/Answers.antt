use Rattle.rules.proofs.Choices.{picks}
use Rattle.trim_records.specs.Fates.{kept_after}
use borrow.Author.Rules.{rules}
use Rattle.trim_records.proofs.kept_after.Goals as goal

pub returns-in-1 : goal.returns-in-1
unfolding kept_after
returns-in-1 c = search (rules, picks)

pub returns-in-2 : goal.returns-in-2
unfolding kept_after
returns-in-2 c = search (rules, picks)

pub returns-in_default : goal.returns-in_default
unfolding kept_after
returns-in_default c = search (rules, picks)
