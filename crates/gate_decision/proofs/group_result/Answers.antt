use mathlib.Core.Path.{sym, ◌∙◌}
use Rattle.gate_decision.specs.Standings.{record_result}
use Rattle.gate_decision.proofs.Laws.{admits_asked}
use Rattle.gate_decision.proofs.group_result.Goals as goal

pub returns-then-not-group_admits-clause-comes : goal.returns-then-not-group_admits-clause-comes
unfolding record_result
returns-then-not-group_admits-clause-comes c = let p = c.args.certifier.now.presented.now in
    let a = admits_asked _ p.req.now _ _ _ _ p.whole c.record_at-rec.ensures c.group_admits.ensures c.if-not-group_admits.true in
    rw a

pub returns-then-not-is_certified-clause-comes : goal.returns-then-not-is_certified-clause-comes
unfolding record_result
returns-then-not-is_certified-clause-comes c = let p = c.args.certifier.now.presented.now in
    let a = admits_asked _ p.req.now _ _ _ _ p.whole c.record_at-rec.ensures c.group_admits.ensures c.if-not-group_admits.false in
    rw (a, sym c.is_certified.ensures.answer ∙ c.if-not-is_certified.true)

pub returns-then-not-is_unspent-clause-comes : goal.returns-then-not-is_unspent-clause-comes
unfolding record_result
returns-then-not-is_unspent-clause-comes c = let p = c.args.certifier.now.presented.now in
    let a = admits_asked _ p.req.now _ _ _ _ p.whole c.record_at-rec.ensures c.group_admits.ensures c.if-not-group_admits.false in
    rw (a, sym c.is_certified.ensures.answer ∙ c.if-not-is_certified.false, sym c.is_unspent.ensures ∙ c.if-not-is_unspent.true)

pub returns-clause-comes : goal.returns-clause-comes
unfolding record_result
returns-clause-comes c = let p = c.args.certifier.now.presented.now in
    let a = admits_asked _ p.req.now _ _ _ _ p.whole c.record_at-rec.ensures c.group_admits.ensures c.if-not-group_admits.false in
    rw (a, sym c.is_certified.ensures.answer ∙ c.if-not-is_certified.false, sym c.is_unspent.ensures ∙ c.if-not-is_unspent.false)
