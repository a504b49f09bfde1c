use Rattle.rules.proofs.Choices.{picks}
use Rattle.trim_records.specs.Fates.{checked_after}
use borrow.Author.Rules.{rules}
use Rattle.trim_records.proofs.checked_after.Goals as goal

pub returns-then-rec-eq-GROUP : goal.returns-then-rec-eq-GROUP
unfolding checked_after
returns-then-rec-eq-GROUP c = search (rules, picks)

pub returns : goal.returns
unfolding checked_after
returns c = search (rules, picks)
