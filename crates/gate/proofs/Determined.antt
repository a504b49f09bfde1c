-- The reading of the gate's answers loses nothing: outcomes that read the same are the same, so that the gate's promises determine reply and ledger.
use mathlib.Core.Path.{◌≡◌, sym, ◌∙◌, ap}
use Rattle.rules.specs.Ledger as rules
use Rattle.rules.specs.Gate as rulesGate
use Rattle.gate.specs.declared.Ledger.{Ledger}
use Rattle.gate_charge.specs.declared.Reply.{Reply}
use Rattle.gate.specs.declared.Outcome.{Outcome}
use Rattle.gate_charge.proofs.Determined.{reply_back, reply_back_lem}
use Rattle.gate.specs.Outcomes.{ledger_as, outcome_as}

abbrev pub ledger_back : rules.Ledger → Ledger
ledger_back l = record { counts = l.counts; counters = l.counters; loaded = l.loaded; last = l.last }

pub ledger_determined : (l m : Ledger) → ledger_as l ≡ ledger_as m → l ≡ m
ledger_determined l m e = ap ledger_back e

abbrev outcome_back : rulesGate.Outcome → Outcome
outcome_back o = record { reply = reply_back o.answer; ledger = ledger_back o.ledger }

outcome_back_lem : (o : Outcome) → outcome_back (outcome_as o) ≡ o
outcome_back_lem o = ap (λ (r : Reply). record { reply = r; ledger = o.ledger }) (reply_back_lem o.reply)

pub outcome_determined : (o p : Outcome) → outcome_as o ≡ outcome_as p → o ≡ p
outcome_determined o p e = sym (outcome_back_lem o) ∙ ap outcome_back e ∙ outcome_back_lem p
