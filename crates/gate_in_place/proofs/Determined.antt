-- The reading of what is left in place loses nothing: where it reads the same, reply, tables and last time are the same, so that the promises determine
-- all of them.
use Prim.Native.Nat.{ℕ}
use mathlib.Core.Path.{◌≡◌, sym, ◌∙◌, ap}
use mathlib.Core.List.{List}
use Rattle.rules.specs.Gate.{Outcome}
use Rattle.gate_charge.specs.declared.Reply.{Reply}
use Rattle.gate_charge.specs.Charges.{answer_as}
use Rattle.gate_charge.proofs.Determined.{reply_back, reply_back_lem}
use Rattle.gate_in_place.specs.Places.{outcome_in}

pub left_determined : (r s : Reply) (counts counts' counters counters' : List ℕ) (loaded last last' : ℕ)
    → outcome_in (answer_as r) counts counters loaded last ≡ outcome_in (answer_as s) counts' counters' loaded last'
    → (r ≡ s) × (counts ≡ counts') × (counters ≡ counters') × (last ≡ last')
left_determined r s counts counts' counters counters' loaded last last' e = (
  sym (reply_back_lem r) ∙ ap (λ (o : Outcome). reply_back o.answer) e ∙ reply_back_lem s,
  ap (λ (o : Outcome). o.ledger.counts) e,
  ap (λ (o : Outcome). o.ledger.counters) e,
  ap (λ (o : Outcome). o.ledger.last) e,
)
