use mathlib.Core.Path.{◌∙◌, ap}
use Rattle.rules.specs.Request.{use_of}
use Rattle.reason_inputs.proofs.Laws.{asks_nothing, asks_first}
use Rattle.reason_inputs.proofs.asks_other.Goals as goal

pub returns-in-Some : goal.returns-in-Some
returns-in-Some c = let h = c.in-Some.ensures.cases in asks_first _ _ _ h.enough (c.is_use.ensures ∙ ap (use_of c.args.p) h.same)

pub returns-in-None : goal.returns-in-None
returns-in-None c = asks_nothing _ _ c.in-None.ensures.cases
