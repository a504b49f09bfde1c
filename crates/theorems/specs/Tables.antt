-- What the tables of a ledger and of a cabinet keep to: the theorems are in proofs/Bounds.antt,
-- proofs/CabinetTables.antt and proofs/NamedCounters.antt.
use Rattle.std.specs.Prelude.{◌≤◌, ℕ, length, ◌≡◌}
use Rattle.rules.specs.Basics.{Every}
use Rattle.rules.specs.Cabinet.{Cabinet, counts_and_times}
use Rattle.rules.specs.Gate.{Outcome}
use Rattle.rules.specs.Ledger.{Ledger}
use Rattle.rules.specs.Sizes.{counters_max, full_count, groups_max, slots_max}

-- a count that 32 bits hold
abbrev pub Held : ℕ → Type 0
Held n = n ≤ full_count

-- every count and counter of a ledger has 32 bits
pub record Bounded (l : Ledger) : Type 0 where
  pub groups : Every Held l.counts
  pub named : Every Held l.counters

-- "eight slots", each with its group counts, "and one shared table of named counters"
pub record CabinetSized (c : Cabinet) : Type 0 where
  pub eight : length c.slots ≡ slots_max
  pub groups : Every (λ s. length s.counts ≡ groups_max) c.slots
  pub named : length c.counters ≡ counters_max

-- every count is one that 32 bits hold
pub record CabinetBounded (c : Cabinet) : Type 0 where
  pub groups : Every (λ s. Every Held s.counts) c.slots
  pub named : Every Held c.counters

-- outcomes with the same answer that leave the same group counts and times
pub record Alike (o p : Outcome) : Type 0 where
  pub answers : o.answer ≡ p.answer
  pub slots : counts_and_times o.ledger ≡ counts_and_times p.ledger
