use Rattle.rules.proofs.Choices.{picks}
use Rattle.rules.specs.Acl.{action_laid_out}
use borrow.Author.Rules.{rules}
use Rattle.acl_reader.proofs.action.Goals as goal

pub returns-then-kind-eq-OP_PERMISSIONS : goal.returns-then-kind-eq-OP_PERMISSIONS
unfolding action_laid_out
returns-then-kind-eq-OP_PERMISSIONS c = search (rules, picks)

pub returns-then-kind-eq-MAKE_BLOB : goal.returns-then-kind-eq-MAKE_BLOB
unfolding action_laid_out
returns-then-kind-eq-MAKE_BLOB c = search (rules, picks)

pub returns-then-kind-eq-MAKE_ARCHIVE_BLOB : goal.returns-then-kind-eq-MAKE_ARCHIVE_BLOB
unfolding action_laid_out
returns-then-kind-eq-MAKE_ARCHIVE_BLOB c = search (rules, picks)

pub returns : goal.returns
unfolding action_laid_out
returns c = search (rules, picks)
