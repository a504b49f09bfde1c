use mathlib.Core.Path.{ap}
use Rattle.rules.specs.Cabinet as rules
use Rattle.rules.specs.CabinetRuns as defined
use Rattle.runs.specs.Judged.{run_reply_as}
use borrow.Author.Rules.{rules}
use Rattle.cabinet_runs.proofs.put_back.Goals as goal

pub returns : goal.returns
returns c buffer = let a = c.args in
    ap (λ (d : rules.Cabinet). let r : defined.CabinetRan = record { reply = run_reply_as a.o.reply; cabinet = d; buffer = buffer } in r) c.with_ledger.ensures
