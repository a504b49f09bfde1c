-- What a call of the gate answers, and the group counts and times that it leaves, depend on the counters only through those that the lent ACL names; if
-- that has a fault, on none.
-- Two wrong products that this rules out: a gate that refuses where some counter that is not named is full, and a narrowing that looks at the
-- counters that the new ACL names.
use Prim.Native.Nat.{ℕ, suc, ◌-◌}
use mathlib.Core.Path.{◌≡◌, refl, ◌∙◌, ap, ap₂}
use mathlib.Core.List.{List, [], ◌∷◌, ◌++◌, map}
use mathlib.Core.Option.{Option, none, some}
use mathlib.Core.Bool.{Bool, true, false, ◌&&◌, ◌||◌}
use lib.ListN.{get_or}
use lib.Dec.{eqb, ltb}
use Rattle.rules.specs.Sizes.{full_count}
use Rattle.std.specs.Prelude.{if◌then◌else◌}
use Rattle.rules.specs.Basics.{Bytes, any, all, Every}
use Rattle.rules.specs.Acl.{Limit, Group, acl_of}
use Rattle.rules.specs.Request.{Request}
use Rattle.rules.specs.Ledger.{Ledger, charge}
use Rattle.rules.specs.Grant.{group_admits, certified, limit_left, limits_left}
use Rattle.rules.specs.Gate.{Outcome, Lowest, group, lowest, early, Judgement, granted, denied, too_early, admits_certified, grants, or_else, judge, settle}
use Rattle.rules.specs.Cabinet.{Slot, ledger_with}
use Rattle.rules.proofs.Judging.{ungranted}
use Rattle.theorems.specs.Demands.{Call, outcome, names, one_of}
use Rattle.theorems.specs.Account.{request_asked, km0_given}
use Rattle.theorems.specs.Cabinets.{counters_named, counters_in, counters_lent}
use Rattle.theorems.proofs.Permit.{called}
use Rattle.theorems.proofs.Calls.{recounts, Kind, judged, loaded, within, past, kind}
use Rattle.theorems.specs.Tables.{Alike}

-- two tables read the same at these numbers
abbrev Agree : List ℕ → List ℕ → List ℕ → Type 0
Agree a b ns = Every (λ n. get_or a n 0 ≡ get_or b n 0) ns

module _ (a b : List ℕ) where
  agree_left : (ms ns : List ℕ) → Agree a b (ms ++ ns) → Agree a b ms
  agree_left [] ns h = tt
  agree_left (m ∷ ms) ns h = (h.0, agree_left ms ns h.1)

  agree_right : (ms ns : List ℕ) → Agree a b (ms ++ ns) → Agree a b ns
  agree_right [] ns h = h
  agree_right (m ∷ ms) ns h = agree_right ms ns h.1

  -- the same by their lists of readings
  readings_agree : (ns : List ℕ) → map (λ n. get_or a n 0) ns ≡ map (λ n. get_or b n 0) ns → Agree a b ns
  readings_agree [] e = tt
  readings_agree (n ∷ ns) e = (cc, readings_agree ns (cc))

  limit_agrees : (own elapsed : ℕ) (m : Limit) (ms : List Limit) → Agree a b (counters_named (m ∷ ms)) → limit_left a own elapsed m ≡ limit_left b own elapsed m
  unfolding limit_left counters_named
  limit_agrees own elapsed m ms h = pick (eqb m.sort 2) refl
    where
      pick : (t : Bool) → eqb m.sort 2 ≡ t → limit_left a own elapsed m ≡ limit_left b own elapsed m
      pick true e = let g : Agree a b (m.counter ∷ counters_named ms) = rw e at h in rw (e, g.0)
      pick false e = rw e

  limit_rest : (m : Limit) (ms : List Limit) → Agree a b (counters_named (m ∷ ms)) → Agree a b (counters_named ms)
  unfolding counters_named
  limit_rest m ms h = pick (eqb m.sort 2) refl
    where
      pick : (t : Bool) → eqb m.sort 2 ≡ t → Agree a b (counters_named ms)
      pick true e = let g : Agree a b (m.counter ∷ counters_named ms) = rw e at h in g.1
      pick false e = rw e at h

  limits_agree : (own elapsed : ℕ) (ms : List Limit) → Agree a b (counters_named ms) → limits_left a own elapsed ms ≡ limits_left b own elapsed ms
  unfolding all
  limits_agree own elapsed [] h = refl
  limits_agree own elapsed (m ∷ ms) h = ap₂ ◌&&◌ (limit_agrees own elapsed m ms h) (limits_agree own elapsed ms (limit_rest m ms h))

  -- the lowest group that grants is the same
  module _ (s : Slot) (km0 : Bytes) (q : Request) where
    lowest_agrees : (place : ℕ) (gs : List Group) → Agree a b (counters_in gs)
        → lowest (grants (ledger_with s a) km0 q) place gs ≡ lowest (grants (ledger_with s b) km0 q) place gs
    unfolding lowest counters_in
    lowest_agrees place [] h = refl
    lowest_agrees place (g ∷ gs) h =
        let own = get_or s.counts place 0 in
        let l = limits_agree own (q.time - s.loaded) g.limits (agree_left (counters_named g.limits) (counters_in gs) h) in
        let t : grants (ledger_with s a) km0 q place g ≡ grants (ledger_with s b) km0 q place g = ap (λ (u : Bool). group_admits km0 q g && certified q g && (ltb own full_count && u)) l in
        ap₂ (λ (u : Bool) (r : Lowest). if u then group place g else r) t
        (lowest_agrees (suc place) gs (agree_right (counters_named g.limits) (counters_in gs) h))

    judge_agrees : (gs : List Group) → Agree a b (counters_in gs) → judge (ledger_with s a) km0 gs q ≡ judge (ledger_with s b) km0 gs q
    unfolding judge
    judge_agrees gs h =
        ap (λ (r : Lowest). if too_early (ledger_with s a) q then denied early else or_else r granted (ungranted (lowest (λ place. admits_certified km0 q) 0 gs) (lowest (λ place. group_admits km0 q) 0 gs))) (lowest_agrees 0 gs h)

called_alike : (s : Slot) (a b : List ℕ) (fault : Option ℕ) (km0 : Bytes) (gs : List Group) (q : Request) (shown : Bool) (recount : List ℕ → List ℕ) → (fault ≡ none → Agree a b (counters_in gs))
    → Alike (called fault (ledger_with s a) km0 gs q (recounts shown recount (ledger_with s a))) (called fault (ledger_with s b) km0 gs q (recounts shown recount (ledger_with s b)))
unfolding charge
called_alike s a b (some x) km0 gs q shown recount h = record { answers = refl; slots = refl }
called_alike s a b none km0 gs q shown recount h = rw (judge_agrees a b s km0 q gs (h refl)) (pick shown (judge (ledger_with s b) km0 gs q))
  where
    pick : (t : Bool) (j : Judgement) → Alike (settle (ledger_with s a) q.time (recounts t recount (ledger_with s a)) j) (settle (ledger_with s b) q.time (recounts t recount (ledger_with s b)) j)
    pick t (denied d) = record { answers = refl; slots = refl }
    pick true (granted k g) = record { answers = refl; slots = refl }
    pick false (granted k g) = record { answers = refl; slots = refl }

-- One call, of any bytes.
call_alike : (s : Slot) (a b : List ℕ) (acl : Bytes) (c : Call) → Agree a b (counters_lent acl)
    → Alike (outcome (record { ledger = ledger_with s a; acl = acl }) c) (outcome (record { ledger = ledger_with s b; acl = acl }) c)
call_alike s a b acl c h = pick c (λ l. outcome (record { ledger = l; acl = acl }) c) (kind acl c)
  where
    pick : (c : Call) (f : Ledger → Outcome) → Kind acl c f → Alike (f (ledger_with s a)) (f (ledger_with s b))
    pick c f (judged fault shown recount z file x) = called_alike s a b fault (km0_given c) (acl_of acl) (request_asked c) shown recount (λ e. rw (file e) at h)
    pick c f (loaded time) = record { answers = refl; slots = refl }
    pick c f (within n e) = record { answers = refl; slots = refl }
    pick c f (past n z) = record { answers = refl; slots = refl }

-- Two ledgers with the same group counts and times, of which the counters that the lent ACL names read the same: the same answer, and the same group
-- counts and times after it.
pub only_named : (s : Slot) (a b : List ℕ) (acl : Bytes) (c : Call)
    → map (λ n. get_or a n 0) (counters_lent acl) ≡ map (λ n. get_or b n 0) (counters_lent acl)
    → Alike (outcome (record { ledger = ledger_with s a; acl = acl }) c) (outcome (record { ledger = ledger_with s b; acl = acl }) c)
only_named s a b acl c e = call_alike s a b acl c (readings_agree a b (counters_lent acl) e)

-- the counters listed are those that a limit names
named_limits : (n : ℕ) (ms : List Limit) → one_of (counters_named ms) n ≡ names n ms
unfolding one_of any names counters_named
named_limits n [] = refl
named_limits n (m ∷ ms) = pick (eqb m.sort 2) refl (named_limits n ms)
  where
    pick : (t : Bool) → eqb m.sort 2 ≡ t → one_of (counters_named ms) n ≡ names n ms → one_of (counters_named (m ∷ ms)) n ≡ names n (m ∷ ms)
    pick true e h = rw e (ap (λ (u : Bool). eqb m.counter n || u) h)
    pick false e h = rw e h

pub named_groups : (n : ℕ) (gs : List Group) → one_of (counters_in gs) n ≡ any (λ g. names n g.limits) gs
unfolding one_of any counters_in
named_groups n [] = refl
named_groups n (g ∷ gs) = one_of_append n (counters_named g.limits) (counters_in gs) ∙ ap₂ ◌||◌ (named_limits n g.limits) (named_groups n gs)
  where
    one_of_append : (n : ℕ) (ms ns : List ℕ) → any (λ m. eqb m n) (ms ++ ns) ≡ (any (λ m. eqb m n) ms || any (λ m. eqb m n) ns)
    one_of_append n [] ns = refl
    one_of_append n (m ∷ ms) ns = pick (eqb m n) (one_of_append n ms ns)
      where
        pick : (t : Bool) → any (λ m. eqb m n) (ms ++ ns) ≡ (any (λ m. eqb m n) ms || any (λ m. eqb m n) ns)
            → (t || any (λ m. eqb m n) (ms ++ ns)) ≡ ((t || any (λ m. eqb m n) ms) || any (λ m. eqb m n) ns)
        pick true h = refl
        pick false h = h
