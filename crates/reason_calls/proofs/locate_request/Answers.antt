use Rattle.reason_calls.proofs.Laws.{request_bad, request_ready, request_judged}
use Rattle.reason_calls.proofs.locate_request.Goals as goal

pub returns-in-Err : goal.returns-in-Err
returns-in-Err c = let a = c.args in request_bad a.km0.now a.acl.now a.req.now _ _ _ c.in-Err.ensures

pub locate_judged-requires : goal.locate_judged-requires
locate_judged-requires c = let a = c.args in request_ready a.km0.now a.acl.now a.req.now c.in_default.ensures

pub returns : goal.returns
returns c = let a = c.args in request_judged a.km0.now a.acl.now a.req.now _ _ c.in_default.ensures c.locate_judged.ensures
