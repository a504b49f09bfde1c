use Rattle.rules.proofs.Choices.{picks}
use Rattle.trim_records.specs.Fates.{on_record}
use borrow.Author.Rules.{rules}
use Rattle.trim_records.proofs.Standing.on_record.Goals as goal

pub returns-in-1 : goal.returns-in-1
unfolding on_record
returns-in-1 c = search (rules, picks)

pub returns-in-2 : goal.returns-in-2
unfolding on_record
returns-in-2 c = search (rules, picks)

pub returns-in-15 : goal.returns-in-15
unfolding on_record
returns-in-15 c = search (rules, picks)

pub returns-in_default : goal.returns-in_default
unfolding on_record
returns-in_default c = search (rules, picks)
