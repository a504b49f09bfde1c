-- How the code searches for a chain: by levels. The delegations that end a chain of one, then of at most two, and so on, each level a set of the
-- delegations presented. That this finds a chain exactly where the definition does: proofs/Levels.antt.
use Rattle.std.specs.Prelude.{ℕ, zero, suc, ◌/◌, ◌%◌, ◌<◌, List, [], ◌∷◌, ◌≡◌, Bool, false, ◌&&◌, ◌||◌, length, get_or, eqb}
use Rattle.std.proofs.Math.Option.{Option}
use Rattle.rules.specs.Basics.{Bytes, any, same, part, set_of, matches_number}
use Rattle.rules.specs.Request.{Certificate, Delegation, delegations_of}
use Rattle.rules.specs.Chain.{serves, holds}

-- some delegation of a set passes a test; the set is a number, as `set_of` makes it
unfoldable pub any_in : ℕ → (Delegation → Bool) → List Delegation → Bool
any_in set test [] = false
any_in set test (d ∷ ds) = eqb (set % 2) 1 && test d || any_in (set / 2) test ds

-- a delegation that leads to a key
unfoldable pub leads_to : Bytes → Delegation → Bool
leads_to h d = same d.to h

-- "to a presented key": a delegation that leads to the key of a certificate, of that mechanism where one is named
unfoldable pub leads_to_presented : Option ℕ → List Certificate → Delegation → Bool
leads_to_presented m cs d = any (serves d.to m) cs

-- "leads from the group's certifier": a hash that is the key, or where one of a set leads
unfoldable pub starts_at : Bytes → List Delegation → ℕ → Bytes → Bool
starts_at k ds set from = same from k || any_in set (leads_to from) ds

-- a delegation that holds the bit and starts there
unfoldable pub continues : ℕ → Bytes → List Delegation → ℕ → Delegation → Bool
continues p k ds set d = holds p d && starts_at k ds set d.from

-- the level after a level
unfoldable pub next_level : ℕ → Bytes → List Delegation → ℕ → ℕ
next_level p k ds set = set_of (continues p k ds set) ds

-- the delegations that end a chain of at most n from a key
unfoldable pub level : ℕ → ℕ → Bytes → List Delegation → ℕ
level zero p k ds = 0
level (suc n) p k ds = next_level p k ds (level n p k ds)

-- a certificate to which some delegation of a set leads, of that mechanism where one is named
unfoldable pub ends_at : Option ℕ → List Delegation → ℕ → Certificate → Bool
ends_at m ds set c = any_in set (leads_to c.hash) ds && matches_number m c.mechanism

-- a table of the sets of the delegations that lead to the hash of each record: where a delegation starts, or the key of a certificate
abbrev pub Links : List Bytes → List Bytes → List ℕ → Type 0
Links recs dels links =
    (i : ℕ) → i < length recs → get_or links i 0 ≡ set_of (leads_to (part 4 20 (get_or recs i []))) (delegations_of dels)
