use mathlib.Core.Path.{◌∙◌, ap}
use Rattle.rules.specs.Runs.{RunOutcome}
use Rattle.gate.specs.Outcomes.{ledger_as}
use Rattle.replay_runs.proofs.run_call.Goals as goal

pub returns : goal.returns
returns c = let o = c.answer-o.ensures in
    (ap ledger_as c.print_ledger.ensures ∙ ap (λ (x : RunOutcome). x.ledger) o, ap (λ (x : RunOutcome). x.buffer) o)
