-- The words of request m (document 02), "Narrowing never buys uses": permits put down to groups of the first ACL, under an account that counts only
-- those. The account has a ledger's parts: a count for each group of the first ACL, the named counters, load time and last time.
use Rattle.std.specs.Prelude.{ℕ, List, [], ◌∷◌, ◌≡◌, Bool, true, false}
use Rattle.std.proofs.Math.Option.{some}
use Rattle.std.proofs.Math.ListN.{get_elem?}
use Rattle.rules.specs.Basics.{Bytes}
use Rattle.rules.specs.Acl.{Group}
use Rattle.rules.specs.Request.{Request, request_of}
use Rattle.rules.specs.Ledger.{Ledger, charge}
use Rattle.rules.specs.Gate.{Answer, done, permit, refuse, grants, load, clear}
use Rattle.theorems.specs.Demands.{Call, requesting, loading, clearing, narrowing, expanding, State, outcome, after}

-- the request that a call makes, with what it presents; a load and a clear make none, and are never permitted or refused for what they ask
abbrev pub request_asked : Call → Request
request_asked (requesting km0 req) = request_of req
request_asked (loading time) = request_of []
request_asked (clearing counter) = request_of []
request_asked (narrowing km0 req new hints) = request_of req
request_asked (expanding km0 req new) = request_of req

-- the KM0 that a call is given
abbrev pub km0_given : Call → Bytes
km0_given (requesting km0 req) = km0
km0_given (loading time) = []
km0_given (clearing counter) = []
km0_given (narrowing km0 req new hints) = km0
km0_given (expanding km0 req new) = km0

-- "obeys the same clears and reloads": the account after a call that is done
abbrev pub followed : Ledger → Call → Ledger
followed a (requesting km0 req) = a
followed a (loading time) = (load a time).ledger
followed a (clearing counter) = (clear a counter).ledger
followed a (narrowing km0 req new hints) = a
followed a (expanding km0 req new) = a

-- "put down to a group of the first ACL that admits it, is certified by what was presented, and is unspent under an account" which "counts only
-- those attributed permits": the group is charged in the account, and `next` holds of the account then
abbrev pub PutDownTo : List Group → Ledger → Bytes → Request → (Ledger → Type 0) → Type 0
PutDownTo first a km0 q next =
    (place : ℕ) × (g : Group) × (get_elem? first place ≡ some g) × (grants a km0 q place g ≡ true) × next (charge a place g q.time)

-- one call, by its answer: a permit is put down to a group, a load or a clear is followed, and a refusal leaves the account
abbrev pub PutDown : List Group → Ledger → Call → (Ledger → Type 0) → Answer → Type 0
PutDown first a c next done = next (followed a c)
PutDown first a c next (permit place) = PutDownTo first a (km0_given c) (request_asked c) next
PutDown first a c next (refuse f near) = next a

-- "Each permitted request can be put down": each of a sequence of calls, from a state and an account on. "Different permits may go to different
-- groups."
abbrev pub AllPutDown : List Group → Ledger → State → List Call → Type 0
AllPutDown first a s [] = Unit {0}
AllPutDown first a s (c ∷ cs) = PutDown first a c (λ b. AllPutDown first b (after s c) cs) (outcome s c).answer

-- a call that asks for an expansion
abbrev pub is_expansion : Call → Bool
is_expansion (requesting km0 req) = false
is_expansion (loading time) = false
is_expansion (clearing counter) = false
is_expansion (narrowing km0 req new hints) = false
is_expansion (expanding km0 req new) = true
