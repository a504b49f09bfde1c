use mathlib.Core.Path.{◌∙◌, ap, ap₂}
use Rattle.rules.specs.Basics.{Bytes, records}
use Rattle.rules.specs.Request.{use_of}
use Rattle.request_reader.specs.Following.{following_fault}
use Rattle.request_reader.proofs.Laws.{request_missing, request_bad, request_rest, enough}
use Rattle.request_reader.proofs.use_records.Goals as goal

pub returns-in_default : goal.returns-in_default
returns-in_default c = request_missing (use_of c.args.p) c.args.req.now c.in_default.ensures.cases

pub returns-then-not-use_record : goal.returns-then-not-use_record
returns-then-not-use_record c = let e = c.in-Some.ensures.cases in
    request_bad (use_of c.args.p) c.args.req.now _ (enough _ _ e.2) (c.use_record.ensures ∙ ap (use_of c.args.p) e.0) c.if-not-use_record.true

pub returns : goal.returns
returns c = let e = c.in-Some.ensures.cases in
    request_rest (use_of c.args.p) c.args.req.now _ _ (enough _ _ e.2) (c.use_record.ensures ∙ ap (use_of c.args.p) e.0) c.if-not-use_record.false
    (c.following_records.ensures ∙ ap₂ (λ (r s : Bytes). following_fault r (records s)) e.0 e.1)
