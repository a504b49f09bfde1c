-- What an ACL that the gate reads, and a ledger, keep to: document 01, "Records" and "The ledger". The theorem about ACLs is in proofs/AclSizes.antt.
use Rattle.std.specs.Prelude.{ℕ, ◌≤◌, ◌<◌, ◌≡◌, ◌≢◌, List, length}
use Rattle.std.proofs.Math.Option.{some}
use Rattle.std.proofs.Math.ListN.{get_elem?}
use Rattle.rules.specs.Sizes.{groups_max, limits_max, actions_max, counters_max}
use Rattle.rules.specs.Basics.{Every}
use Rattle.rules.specs.Acl.{Limit, Group}
use Rattle.rules.specs.Ledger.{Ledger}

-- "byte 4 sort (1 uses per load, 2 named counter, 3 seconds since load), byte 5 counter .. (sort 2 only, else zero)", "numbers 0 to 255"
pub record LimitFits (m : Limit) : Type 0 where
  pub lowest_sort : 1 ≤ m.sort
  pub highest_sort : m.sort ≤ 3
  pub named : m.sort ≡ 2 → m.counter < counters_max
  pub unnamed : m.sort ≢ 2 → m.counter ≡ 0

-- "One group has at most one limit of sort 1, one of sort 3, and never one counter twice": two limits of one sort are of sort 2 and name two counters
abbrev pub Apart : List Limit → Type 0
Apart ms = (i j : ℕ) (m n : Limit) → i < j → get_elem? ms i ≡ some m → get_elem? ms j ≡ some n → m.sort ≡ n.sort → (m.sort ≡ 2) × (m.counter ≢ n.counter)

-- "4 limits and 8 actions per group"
pub record GroupFits (g : Group) : Type 0 where
  pub limits : length g.limits ≤ limits_max
  pub actions : length g.actions ≤ actions_max
  pub each : Every LimitFits g.limits
  pub apart : Apart g.limits

-- "Raise groups to 64"
pub record AclFits (gs : List Group) : Type 0 where
  pub groups : length gs ≤ groups_max
  pub each : Every GroupFits gs

-- "It has sixteen group counts, ninety-six named counters", and with document 02, request g, 64 and 256: as many counts as an ACL may have groups, and as many counters as there are named ones
pub record Sized (l : Ledger) : Type 0 where
  pub groups : length l.counts ≡ groups_max
  pub named : length l.counters ≡ counters_max
