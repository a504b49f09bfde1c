-- What a permit, a load and a clear do to the ledger, entry by entry: document 01, "When a group grants" and "The ledger". The theorems are in
-- proofs/Charges.antt.
use Rattle.std.specs.Prelude.{ℕ, ◌+◌, ◌≤◌, ◌<◌, ◌≡◌, List, Bool, length, get_or, eqb, if◌then◌else◌}
use Rattle.std.proofs.Math.Option.{some}
use Rattle.std.proofs.Math.ListN.{get_elem?}
use Rattle.rules.specs.Sizes.{groups_max, counters_max}
use Rattle.rules.specs.Acl.{Group}
use Rattle.rules.specs.Request.{Hint}
use Rattle.rules.specs.Ledger.{Ledger}
use Rattle.theorems.specs.Demands.{names}

-- "plus 1", where a test says so
abbrev pub plus_one_if : Bool → ℕ → ℕ
plus_one_if b n = if b then n + 1 else n

-- a group's count after a charge of the group at a place: "own count .. plus 1", and no other
abbrev pub count_charged : Ledger → ℕ → ℕ → ℕ
count_charged l place i = plus_one_if (eqb i place) (get_or l.counts i 0)

-- a counter after a charge of a group: "each named counter plus 1", and no other
abbrev pub counter_charged : Ledger → Group → ℕ → ℕ
counter_charged l g c = plus_one_if (names c g.limits) (get_or l.counters c 0)

-- A ledger as the charge of a group leaves it, but for the group counts: the tables have their sizes, "each named counter plus 1, last time set to the
-- request's", and the load time stands.
pub record AsCharged (l : Ledger) (g : Group) (time : ℕ) (m : Ledger) : Type 0 where
  pub counts_length : length m.counts ≡ groups_max
  pub counters_length : length m.counters ≡ counters_max
  pub counters : (c : ℕ) → get_or m.counters c 0 ≡ counter_charged l g c
  pub loaded : m.loaded ≡ l.loaded
  pub last : m.last ≡ time

-- "charged: own count and each named counter plus 1, last time set to the request's": each entry of each table, past their ends too
pub record Charged (l : Ledger) (place : ℕ) (g : Group) (time : ℕ) (m : Ledger) : Type 0 where
  pub as_charged : AsCharged l g time m
  pub counts : (i : ℕ) → get_or m.counts i 0 ≡ count_charged l place i

-- "Each new group takes its source's count after charging; counts past the last new group are zero."
pub record Carried (l : Ledger) (place : ℕ) (g : Group) (time : ℕ) (new : List Group) (hints : List Hint) (m : Ledger) : Type 0 where
  pub as_charged : AsCharged l g time m
  pub counts : (i : ℕ) → i < length new → (h : Hint) × (get_elem? hints i ≡ some h) × (get_or m.counts i 0 ≡ count_charged l place h.source)
  pub past : (i : ℕ) → length new ≤ i → get_or m.counts i 0 ≡ 0

-- "Expansion .. zeroes all group counts."
pub record Zeroed (l : Ledger) (g : Group) (time : ℕ) (m : Ledger) : Type 0 where
  pub as_charged : AsCharged l g time m
  pub counts : (i : ℕ) → get_or m.counts i 0 ≡ 0

-- "Load, at any time given: group counts zero, both times set to it."
pub record Loaded (l : Ledger) (time : ℕ) (m : Ledger) : Type 0 where
  pub counts : (i : ℕ) → get_or m.counts i 0 ≡ 0
  pub counters : m.counters ≡ l.counters
  pub loaded : m.loaded ≡ time
  pub last : m.last ≡ time

-- "Clear: one named counter to zero."
pub record Cleared (l : Ledger) (counter : ℕ) (m : Ledger) : Type 0 where
  pub counts : m.counts ≡ l.counts
  pub counters : (c : ℕ) → get_or m.counters c 0 ≡ (if eqb c counter then 0 else get_or l.counters c 0)
  pub loaded : m.loaded ≡ l.loaded
  pub last : m.last ≡ l.last
