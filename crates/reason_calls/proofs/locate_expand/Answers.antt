use Rattle.reason_calls.proofs.Laws.{expand_bad, expand_ready, expand_judged}
use Rattle.reason_calls.proofs.locate_expand.Goals as goal

pub returns-in-Err : goal.returns-in-Err
returns-in-Err c = let a = c.args in expand_bad a.km0.now a.acl.now a.req.now a.new.now _ _ _ c.in-Err.ensures

pub locate_judged-requires : goal.locate_judged-requires
locate_judged-requires c = let a = c.args in expand_ready a.km0.now a.acl.now a.req.now a.new.now c.in_default.ensures

pub returns : goal.returns
returns c = let a = c.args in expand_judged a.km0.now a.acl.now a.req.now a.new.now _ _ c.in_default.ensures c.locate_judged.ensures
