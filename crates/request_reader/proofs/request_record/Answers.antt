use Rattle.rules.specs.Request.{request_laid_out}
use Rattle.rules.proofs.Choices.{picks}
use borrow.Author.Rules.{rules}
use Rattle.request_reader.proofs.request_record.Goals as goal

pub returns-then-kind-eq-USE : goal.returns-then-kind-eq-USE
unfolding request_laid_out
returns-then-kind-eq-USE c = search (rules, picks)

pub returns-then-kind-eq-BLOB : goal.returns-then-kind-eq-BLOB
unfolding request_laid_out
returns-then-kind-eq-BLOB c = search (rules, picks)

pub returns-then-kind-eq-RECOVERY_BLOB : goal.returns-then-kind-eq-RECOVERY_BLOB
unfolding request_laid_out
returns-then-kind-eq-RECOVERY_BLOB c = search (rules, picks)

pub returns : goal.returns
unfolding request_laid_out
returns c = search (rules, picks)
