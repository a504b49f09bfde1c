use mathlib.Core.Path.{◌∙◌, ap, ap₂}
use Rattle.rules.specs.Basics.{Bytes, records}
use Rattle.rules.specs.Request.{request_laid_out}
use Rattle.request_reader.specs.Following.{following_fault}
use Rattle.request_reader.proofs.Laws.{request_missing, request_bad, request_rest, enough}
use Rattle.request_reader.proofs.request_records.Goals as goal

pub returns-in_default : goal.returns-in_default
returns-in_default c = request_missing request_laid_out c.args.req.now c.in_default.ensures.cases

pub returns-then-not-request_record : goal.returns-then-not-request_record
returns-then-not-request_record c = let e = c.in-Some.ensures.cases in
    request_bad request_laid_out c.args.req.now _ (enough _ _ e.2) (c.request_record.ensures ∙ ap request_laid_out e.0) c.if-not-request_record.true

pub returns : goal.returns
returns c = let e = c.in-Some.ensures.cases in
    request_rest request_laid_out c.args.req.now _ _ (enough _ _ e.2) (c.request_record.ensures ∙ ap request_laid_out e.0) c.if-not-request_record.false
    (c.following_records.ensures ∙ ap₂ (λ (r s : Bytes). following_fault r (records s)) e.0 e.1)
