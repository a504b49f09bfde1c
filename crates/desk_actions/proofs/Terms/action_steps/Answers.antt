use Rattle.rules.specs.Desk.{failure_under}
use Rattle.rules.proofs.Choices.{picks}
use Rattle.desk_actions.specs.Judging.{failure_by}
use Rattle.desk_actions.proofs.Laws.{by_kind}
use borrow.Author.Rules.{rules}
use Rattle.desk_actions.proofs.Terms.action_steps.Goals as goal

pub returns-then-kind-eq-OP_PERMISSIONS : goal.returns-then-kind-eq-OP_PERMISSIONS
unfolding failure_under
returns-then-kind-eq-OP_PERMISSIONS c = λ f. let a = c.args in by_kind (failure_by a.self) a.rec.now f _ (search (rules, picks))

pub returns-then-kind-eq-MAKE_BLOB : goal.returns-then-kind-eq-MAKE_BLOB
unfolding failure_under
returns-then-kind-eq-MAKE_BLOB c = λ f. let a = c.args in by_kind (failure_by a.self) a.rec.now f _ (search (rules, picks))

pub returns : goal.returns
unfolding failure_under
returns c = λ f. let a = c.args in by_kind (failure_by a.self) a.rec.now f _ (search (rules, picks))
