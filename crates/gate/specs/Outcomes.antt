-- The gate's types, as the definitions have them: the ledger and outcomes; and the outcome of a call by its answer.
use Rattle.std.specs.Prelude.{ℕ, List, ◌≡◌, Bool, drop, if◌then◌else◌}
use Rattle.rules.specs.Numbers.{not_narrower}
use Rattle.rules.specs.Acl.{Limit, Group}
use Rattle.rules.specs.Request.{Hint}
use Rattle.rules.specs.Ledger as rules
use Rattle.rules.specs.Gate as rulesGate
use Rattle.acl_groups.specs.Parts.{first_limits}
use Rattle.gate.specs.declared.Ledger.{Ledger}
use Rattle.gate.specs.declared.Outcome.{Outcome}
use Rattle.gate_charge.specs.Charges.{answer_as, CountersRoom, CountRoom, counters_charged, counts_charged, last_after}
use Rattle.gate_counts.specs.Carried.{carried_of, counts_after}

-- the ledger
abbrev pub ledger_as : Ledger → rules.Ledger
ledger_as l = record { counts = l.counts; counters = l.counters; loaded = l.loaded; last = l.last }

-- "Every step takes the ledger whole and hands it back."
abbrev pub outcome_as : Outcome → rulesGate.Outcome
outcome_as o = record { answer = answer_as o.reply; ledger = ledger_as o.ledger }

-- "charged: own count and each named counter plus 1, last time set to the request's", by the group's limits
abbrev pub charged_with : rules.Ledger → ℕ → List Limit → ℕ → rules.Ledger
charged_with l place ms time =
    record {
      counts = rules.raised l.counts place l.counts;
      counters = rules.raised_by l.counters ms l.counters;
      loaded = l.loaded;
      last = time;
    }

-- what an answer charges: a permit its group, by the limits at its index; without one the ledger is unchanged
abbrev pub charged_by : rules.Ledger → List Group → ℕ → rulesGate.Answer → rulesGate.Outcome
charged_by l gs time rulesGate.done = record { answer = rulesGate.done; ledger = l }
charged_by l gs time (rulesGate.permit place) = rulesGate.permitted place (charged_with l place (first_limits (drop place gs)) time)
charged_by l gs time (rulesGate.refuse n near) = record { answer = rulesGate.refuse n near; ledger = l }

-- the outcome of a permit if hints have to show a narrowing: "Any breach .. gives 8", and the ledger is unchanged
unfoldable pub permitted_if : rules.Ledger → Bool → ℕ → rules.Ledger → rulesGate.Outcome
permitted_if l shown place charged = if shown then rulesGate.permitted place charged else rulesGate.refused l not_narrower

-- an outcome by its answer and the ledger's tables
abbrev pub outcome_with : rulesGate.Answer → List ℕ → List ℕ → ℕ → ℕ → ℕ → rulesGate.Outcome
outcome_with a counts counters loaded last time =
    record {
      answer = a;
      ledger = record { counts = counts; counters = counters; loaded = loaded; last = last_after a last time };
    }

-- the counts after a narrowing: each new group takes its source's charged count
abbrev pub narrowed_counts : List Hint → rulesGate.Answer → List ℕ → List ℕ
narrowed_counts hs a counts = counts_after (carried_of hs) a (counts_charged a counts)

-- An answer that settles a call on a ledger: what it charges has room, and the tables charged by it, with the group counts that `after` makes, are the
-- outcome's.
pub record Settles (l : rules.Ledger) (gs : List Group) (time : ℕ) (after : rulesGate.Answer → List ℕ → List ℕ) (a : rulesGate.Answer) (o : rulesGate.Outcome) : Type 0 where
  pub counters_room : CountersRoom l.counters gs a
  pub count_room : CountRoom l.counts a
  pub settled : outcome_with a (after a l.counts) (counters_charged gs a l.counters) l.loaded l.last time ≡ o
