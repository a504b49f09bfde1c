use mathlib.Core.Path.{◌∙◌, ap}
use Rattle.rules.specs.Basics.{Bytes, number}
use Rattle.request_reader.proofs.Laws.{time_none, time_some}
use Rattle.request_reader.proofs.time.Goals as goal

pub returns-in-Some : goal.returns-in-Some
returns-in-Some c = let e = c.in-Some.ensures.cases in
    time_some c.args.req.now _ e.enough (c.be64.ensures ∙ ap (λ (r : Bytes). number 56 8 r) e.same)

pub returns-in-None : goal.returns-in-None
returns-in-None c = time_none c.args.req.now c.in-None.ensures.cases
