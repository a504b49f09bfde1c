use Rattle.reason_calls.proofs.Laws.{narrow_bad, narrow_ready, narrow_judged}
use Rattle.reason_calls.proofs.locate_narrow.Goals as goal

pub returns-in-Err : goal.returns-in-Err
returns-in-Err c = let a = c.args in narrow_bad a.km0.now a.acl.now a.req.now a.new.now a.hints.now _ _ _ c.in-Err.ensures

pub locate_judged-requires : goal.locate_judged-requires
locate_judged-requires c = let a = c.args in narrow_ready a.km0.now a.acl.now a.req.now a.new.now a.hints.now c.in_default.ensures

pub returns : goal.returns
returns c = let a = c.args in narrow_judged a.km0.now a.acl.now a.req.now a.new.now a.hints.now _ _ _ _ c.in_default.ensures c.locate_breach.ensures c.narrowing_place-shown.ensures c.locate_judged.ensures
