-- What a call leaves in the tables, with its reply in numbers, is the outcome in numbers.
use Prim.Native.Nat.{ℕ}
use mathlib.Core.Path.{◌≡◌, ◌∙◌, ap}
use mathlib.Core.List.{List}
use Rattle.rules.specs.Gate.{Outcome}
use Rattle.gate_decision.specs.Standings.{ledger_of_tables}
use Rattle.gate_charge.specs.declared.Reply.{Reply}
use Rattle.gate_charge.specs.Charges.{answer_as}
use Rattle.gate_in_place.specs.Places.{outcome_in}
use Rattle.c_answers.specs.declared.HostReply.{HostReply}
use Rattle.c_answers.specs.Surface.{ReplyInNumbers, host_reply_as, host_reply_for, host_outcome_for}
use Rattle.c_tables.specs.Tables.{host_outcome_on}

pub outcome_on : (a : Reply) (r : HostReply) (o : Outcome) (counts counters : List ℕ) (loaded last : ℕ) → host_reply_as r ≡ host_reply_for (answer_as a)
    → outcome_in (answer_as a) counts counters loaded last ≡ o → host_outcome_on r counts counters loaded last ≡ host_outcome_for o
outcome_on a r o counts counters loaded last t e =
    ap (λ (n : ReplyInNumbers). record { ledger = ledger_of_tables counts counters loaded last; reply = n }) t ∙ ap host_outcome_for e
