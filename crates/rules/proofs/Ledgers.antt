-- A charge keeps the lengths of the ledger's tables.
use Prim.Native.Nat.{ℕ, ◌+◌}
use mathlib.Core.Path.{◌≡◌, refl, ◌∙◌}
use mathlib.Core.List.{List, [], ◌∷◌}
use mathlib.Core.Bool.{Bool, true, false}
use lib.ListN.{length, get_or, length-set}
use lib.Dec.{eqb}
use Rattle.rules.specs.Acl.{Limit, Group}
use Rattle.rules.specs.Ledger.{Ledger, raised, raised_by, charge}
use Rattle.rules.specs.Fits.{Sized}

-- Raising: the table keeps its length.
pub raised_by_length : (before : List ℕ) (ms : List Limit) (now : List ℕ) → length (raised_by before ms now) ≡ length now
unfolding raised_by
raised_by_length before [] now = refl
raised_by_length before (m ∷ ms) now = pick (eqb m.sort 2) refl (raised_by_length before ms)
  where
    pick : (b : Bool) → eqb m.sort 2 ≡ b → ((now : List ℕ) → length (raised_by before ms now) ≡ length now) → length (raised_by before (m ∷ ms) now) ≡ length now
    pick true e f = rw e (f (raised before m.counter now) ∙ length-set now m.counter (get_or before m.counter 0 + 1))
    pick false e f = rw e (f now)

pub charge_sized : (l : Ledger) (k : ℕ) (g : Group) (time : ℕ) → Sized l → Sized (charge l k g time)
unfolding charge
charge_sized l k g time h =
    record { groups = length-set l.counts k (get_or l.counts k 0 + 1) ∙ h.groups; named = raised_by_length l.counters g.limits l.counters ∙ h.named }
