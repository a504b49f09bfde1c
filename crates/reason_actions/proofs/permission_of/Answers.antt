use Rattle.reason_actions.proofs.Laws.{of_permissions, of_other}
use borrow.Author.Rules.{rules}
use Rattle.reason_actions.proofs.permission_of.Goals as goal

pub returns-then-rec-eq-OP_PERMISSIONS : goal.returns-then-rec-eq-OP_PERMISSIONS
returns-then-rec-eq-OP_PERMISSIONS c = λ file. of_permissions _ _ file _ c.if-rec-eq-OP_PERMISSIONS.true _ c.be16.ensures c.lowest_unadmitted.ensures

pub returns : goal.returns
returns c = λ file. search (rules, of_other)
