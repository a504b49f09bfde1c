-- What a call comes to, whichever kind of call it is. `kind` is the one case over the kinds of call; from it come the laws that the theorems cite: what
-- a call leaves of the ledger, and whether it clears a counter (`comes`); what a permitted one is (`permit_is`); what replaces the ACL in force
-- (`replaces`).
use Prim.Native.Nat.{ℕ, ◌≤◌, ◌<◌}
use native.Mathlib.Omega.{arith}
use mathlib.Core.Path.{◌≡◌, refl}
use mathlib.Core.List.{List}
use mathlib.Core.Option.{Option, none, some}
use mathlib.Core.Bool.{Bool, true, false, ◌&&◌}
use lib.ListN.{length, get_elem?, replicate}
use lib.Dec.{ltb}
use borrow.Author.Tests.{ltb-false, ne_eqb}
use Rattle.rules.specs.Sizes.{groups_max, counters_max, acl_records, hint_records}
use Rattle.rules.specs.Numbers.{bad_length, not_narrower, out_of_range}
use Rattle.std.specs.Prelude.{if◌then◌else◌}
use Rattle.rules.specs.Basics.{Bytes, first_fault, records, fits, file_fault}
use Rattle.rules.specs.Acl.{Group, acl_of, acl_fault, acl_file_fault}
use Rattle.rules.specs.Request.{operation, reduce_acl, expand_acl, request_of, hints_of}
use Rattle.rules.specs.Ledger.{Ledger, charge, loaded_at, cleared, recounted, carried}
use Rattle.rules.specs.Narrow.{narrows}
use Rattle.rules.specs.Gate.{Outcome, permit, number_of, nearest, Judgement, granted, denied, judge, grants, refused_near, refused, permitted, finished, outcome_unless, settle, lengths_fit, request_files, request, clear, narrow_files, narrow, expand_files, expand}
use Rattle.theorems.specs.Demands.{Call, requesting, loading, clearing, narrowing, expanding, State, outcome, replacement, in_force, after, request_in, wanted_in, clears}
use Rattle.theorems.specs.Account.{request_asked, km0_given}
use Rattle.rules.proofs.Laws.{never, and_left, and_right, and_both, unless_passed, fault_none_every}
use Rattle.rules.proofs.Few.{narrow_few}
use Rattle.theorems.specs.Safety.{KnownUse}
use Rattle.theorems.proofs.RequestFile.{known_request, use_wanted}
use Rattle.theorems.proofs.Permit.{granted_is, called}

ruleset conj = (and_left, and_right, and_both)

-- What a permitted call is, and what it leaves of the group counts after the charge: a use leaves them, a narrowing, which its hints show, carries
-- them over, and an expansion zeroes them.
pub data Way (acl : Bytes) (counts : List ℕ) : Call → List ℕ → Type 0 where
  uses : (km0 req : Bytes) → Way acl counts (requesting km0 req) counts
  reduces : (km0 req new hints : Bytes) → narrows (acl_of acl) (acl_of new) (hints_of hints) ≡ true → length (hints_of hints) ≤ groups_max → Way acl counts (narrowing km0 req new hints) (carried counts (hints_of hints))
  expands : (km0 req new : Bytes) → (request_of req).wanted ≡ operation expand_acl → Way acl counts (expanding km0 req new) (replicate groups_max 0)

-- A judged call whose files have no fault: it asks, and what it asks for is known.
pub record Sound (acl : Bytes) (counts : List ℕ) (c : Call) (left : List ℕ) : Type 0 where
  pub file : acl_fault (records acl) ≡ none
  pub asks : request_in c ≡ some (request_asked c)
  pub wants : wanted_in c ≡ some (request_asked c).wanted
  pub known : KnownUse (request_asked c).wanted
  pub way : Way acl counts c left

-- a call that clears no counter of the table
abbrev pub ClearsNone : Call → Type 0
ClearsNone c = (n : ℕ) → n < counters_max → clears n c ≡ false

-- what a permit comes to, on the ledger before it: other group counts, unless the call's hints show no narrowing
abbrev pub recounts : Bool → (List ℕ → List ℕ) → Ledger → ℕ → Ledger → Outcome
recounts shown recount l k m = if shown then permitted k (recounted m (recount m.counts)) else refused l not_narrower

-- A call is judged, or a load, or a clear of a counter in the table or past it; with what it makes of a ledger.
pub data Kind (acl : Bytes) : Call → (Ledger → Outcome) → Type 0 where
  judged : {c : Call} (fault : Option ℕ) (shown : Bool) (recount : List ℕ → List ℕ) → ClearsNone c → (fault ≡ none → acl_file_fault acl ≡ none) → (fault ≡ none → shown ≡ true → (counts : List ℕ) → Sound acl counts c (recount counts))
      → Kind acl c (λ l. called fault l (km0_given c) (acl_of acl) (request_asked c) (recounts shown recount l))
  loaded : (time : ℕ) → Kind acl (loading time) (λ l. finished (loaded_at l time))
  within : (n : ℕ) → ltb n counters_max ≡ true → Kind acl (clearing n) (λ l. finished (cleared l n))
  past : (n : ℕ) → ClearsNone (clearing n) → Kind acl (clearing n) (λ l. refused l out_of_range)

-- an ACL file whose length and records have no fault
file_sound : (acl : Bytes) → fits acl_records acl ≡ true → acl_fault (records acl) ≡ none → acl_file_fault acl ≡ none
unfolding file_fault first_fault
file_sound acl p q = rw (p, q)

pub kind : (acl : Bytes) (c : Call) → Kind acl c (λ l. outcome (record { ledger = l; acl = acl }) c)
unfolding outcome request clear narrow expand
kind acl (requesting km0 req) =
    judged (request_files km0 acl req) true (λ counts. counts) (λ n h. refl)
    (λ e. let n = fault_none_every _ e in let f = unless_passed (lengths_fit km0 acl req) bad_length n.0 in file_sound acl (search conj) n.1.0)
    (λ e t counts. let n = fault_none_every _ e in record { file = n.1.0; asks = refl; wants = refl; known = known_request (records req) n.1.1.0; way = uses km0 req })
kind acl (loading time) = loaded time
kind acl (clearing n) = pick (ltb n counters_max) refl
  where
    pick : (b : Bool) → ltb n counters_max ≡ b → Kind acl (clearing n) (λ l. clear l n)
    pick true e = rw e (within n e)
    pick false e = let b = ltb-false n counters_max e in rw e (past n (λ m h. ne_eqb n m (λ q. omega arith)))
kind acl (narrowing km0 req new hints) =
    judged {c = narrowing km0 req new hints} (narrow_files km0 acl req new hints) (narrows (acl_of acl) (acl_of new) (hints_of hints)) (λ counts. carried counts (hints_of hints)) (λ n h. refl)
    (λ e.
    let n = fault_none_every _ e in
    let f = unless_passed (lengths_fit km0 acl req && fits acl_records new && fits hint_records hints) bad_length n.0 in
    file_sound acl (search conj) n.1.0)
    (λ e t counts.
    let n = fault_none_every _ e in
    let u : (request_of req).wanted ≡ operation reduce_acl = use_wanted reduce_acl (records req) n.1.1.0 in
    record { file = n.1.0; asks = refl; wants = refl; known = rw u (omega arith); way = reduces km0 req new hints t (narrow_few km0 acl req new hints e) })
kind acl (expanding km0 req new) =
    judged {c = expanding km0 req new} (expand_files km0 acl req new) true (λ counts. replicate groups_max 0) (λ n h. refl)
    (λ e.
    let n = fault_none_every _ e in
    let f = unless_passed (lengths_fit km0 acl req && fits acl_records new) bad_length n.0 in
    file_sound acl (search conj) n.1.0)
    (λ e t counts.
    let n = fault_none_every _ e in
    let u : (request_of req).wanted ≡ operation expand_acl = use_wanted expand_acl (records req) n.1.1.0 in
    record { file = n.1.0; asks = refl; wants = refl; known = rw u (omega arith); way = expands km0 req new u })

-- A permitted call: the group that is the reply stands at its place and grants.
pub record Permits (s : State) (c : Call) (k : ℕ) (g : Group) (counts : List ℕ) : Type 0 where
  pub there : get_elem? (acl_of s.acl) k ≡ some g
  pub granting : grants s.ledger (km0_given c) (request_asked c) k g ≡ true
  pub sound : Sound s.acl (charge s.ledger k g (request_asked c).time).counts c counts

-- A call is refused and leaves the ledger; or it is a load; or a clear of a counter in the table; or it is permitted.
pub data Comes (s : State) : Call → Outcome → Type 0 where
  refuses : {c : Call} (n : ℕ) (near : Option ℕ) → ClearsNone c → Comes s c (refused_near s.ledger n near)
  loads : (time : ℕ) → Comes s (loading time) (finished (loaded_at s.ledger time))
  zeroes : (n : ℕ) → ltb n counters_max ≡ true → Comes s (clearing n) (finished (cleared s.ledger n))
  permits : {c : Call} (k : ℕ) (g : Group) (counts : List ℕ) → ClearsNone c → Permits s c k g counts → Comes s c (permitted k (recounted (charge s.ledger k g (request_asked c).time) counts))

pub comes : (s : State) (c : Call) → Comes s c (outcome s c)
comes s c = pick c (λ l. outcome (record { ledger = l; acl = s.acl }) c) (kind s.acl c)
  where
    settled : (c : Call) (fault : Option ℕ) (shown : Bool) (recount : List ℕ → List ℕ) → ClearsNone c → (fault ≡ none → shown ≡ true → (counts : List ℕ) → Sound s.acl counts c (recount counts)) → (j : Judgement) → judge s.ledger (km0_given c) (acl_of s.acl) (request_asked c) ≡ j
        → Comes s c (outcome_unless s.ledger fault (settle s.ledger (request_asked c).time (recounts shown recount s.ledger) j))
    settled c (some x) shown recount z h j e = refuses x none z
    settled c none shown recount z h (denied d) e = refuses (number_of d) (nearest d) z
    settled c none false recount z h (granted k g) e = refuses not_narrower none z
    settled c none true recount z h (granted k g) e =
        let r = granted_is s.ledger (km0_given c) (acl_of s.acl) (request_asked c) k g e in
        permits k g _ z (record { there = r.0; granting = r.1; sound = h refl refl _ })

    pick : (c : Call) (f : Ledger → Outcome) → Kind s.acl c f → Comes s c (f s.ledger)
    pick c f (judged fault shown recount z a h) = settled c fault shown recount z h _ refl
    pick c f (loaded time) = loads time
    pick c f (within n e) = zeroes n e
    pick c f (past n z) = refuses out_of_range none z

-- Is it permitted? Then some group grants it, and it is one of the three ways.
pub permit_is : (s : State) (c : Call) (k : ℕ) → (outcome s c).answer ≡ permit k → (g : Group) × (counts : List ℕ) × Permits s c k g counts
permit_is s c k e = pick c (outcome s c) (comes s c) e
  where
    pick : (c : Call) (o : Outcome) → Comes s c o → o.answer ≡ permit k → (g : Group) × (counts : List ℕ) × Permits s c k g counts
    pick c o (refuses n near z) e = absurd (never (cc))
    pick c o (loads time) e = absurd (never (cc))
    pick c o (zeroes n d) e = absurd (never (cc))
    pick c o (permits i g counts z p) e = let q : i ≡ k = cc in (g, counts, rw q at p)

-- Does it replace the ACL in force? That stands, or the call is a narrowing that its hints show, or a permitted expansion.
pub data Replaces (s : State) : Call → Bytes → Type 0 where
  stands : {c : Call} → Replaces s c s.acl
  narrower : (km0 req new hints : Bytes) → narrows (acl_of s.acl) (acl_of new) (hints_of hints) ≡ true → Replaces s (narrowing km0 req new hints) new
  wider : (km0 req new : Bytes) (k : ℕ) (g : Group) (counts : List ℕ) → (request_of req).wanted ≡ operation expand_acl → Permits s (expanding km0 req new) k g counts → Replaces s (expanding km0 req new) new

pub replaces : (s : State) (c : Call) → Replaces s c (after s c).acl
unfolding after
replaces s c = pick c (outcome s c) (comes s c)
  where
    by_way : (c : Call) (k : ℕ) (g : Group) (counts left : List ℕ) → Way s.acl counts c left → Permits s c k g left → Replaces s c (replacement s.acl c)
    by_way c k g counts left (uses km0 req) p = stands
    by_way c k g counts left (reduces km0 req new hints t few) p = narrower km0 req new hints t
    by_way c k g counts left (expands km0 req new u) p = wider km0 req new k g left u p

    pick : (c : Call) (o : Outcome) → Comes s c o → Replaces s c (in_force s.acl (replacement s.acl c) o.answer)
    pick c o (refuses n near z) = stands
    pick c o (loads time) = stands
    pick c o (zeroes n e) = stands
    pick c o (permits k g counts z p) = by_way c k g _ counts p.sound.way p
