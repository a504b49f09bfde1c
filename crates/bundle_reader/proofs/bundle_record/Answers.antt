use Rattle.rules.specs.Bundle.{bundle_record_laid_out}
use Rattle.rules.proofs.Choices.{picks}
use borrow.Author.Rules.{rules}
use Rattle.bundle_reader.proofs.bundle_record.Goals as goal

pub returns-then-kind-eq-FACT : goal.returns-then-kind-eq-FACT
unfolding bundle_record_laid_out
returns-then-kind-eq-FACT c = search (rules, picks)

pub returns-then-kind-eq-SIGNATURE : goal.returns-then-kind-eq-SIGNATURE
unfolding bundle_record_laid_out
returns-then-kind-eq-SIGNATURE c = search (rules, picks)

pub returns-then-kind-eq-POLICY : goal.returns-then-kind-eq-POLICY
unfolding bundle_record_laid_out
returns-then-kind-eq-POLICY c = search (rules, picks)

pub returns : goal.returns
unfolding bundle_record_laid_out
returns c = search (rules, picks)
