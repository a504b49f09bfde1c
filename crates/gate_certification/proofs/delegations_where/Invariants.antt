use Rattle.std.proofs.Common.{ℕ, Bool, [], ◌≡◌, ◌<◌, ◌-◌, ◌^◌, length, get_or, drop}
use Rattle.rules.specs.Basics.{set_of}
use Rattle.rules.specs.Request.{Delegation, delegation_of, delegations_of}
use Rattle.gate_certification.proofs.delegations_where.Given as goal

abbrev pub invariant-loop-i : goal.invariant-loop-i
invariant-loop-i g l =
    (l.set < 2 ^ (length l.recs - l.i))
    × ((t : Delegation → Bool)
    → ((i : ℕ) (r : Bool) → i < length l.recs → goal.F-post g l.test i r → r ≡ t (delegation_of (get_or l.recs i [])))
    → l.set ≡ set_of t (delegations_of (drop l.i l.recs)))
