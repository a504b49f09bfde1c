-- What breaks a narrowing: nothing exactly where the hints show one; else the new groups before the named group are shown to be narrower, and with
-- it they are not; a limit that is named is the first of the source's that no new limit answers.
use Prim.Native.Nat.{ℕ, zero, suc, ◌+◌}
use native.Mathlib.Omega.{arith}
use mathlib.Core.Path.{◌≡◌, refl, sym, ◌∙◌, ap}
use mathlib.Core.List.{List, [], ◌∷◌}
use mathlib.Core.Option.{Option, none, some}
use mathlib.Core.Bool.{Bool, true, false, not, ◌&&◌, false≢true}
use lib.ListN.{take, get_elem?}
use lib.Dec.{leb}
use Rattle.std.specs.Prelude.{if◌then◌else◌}
use Rattle.rules.specs.Basics.{all, all_zero, present}
use Rattle.rules.specs.Acl.{Action, Group}
use Rattle.rules.specs.Request.{Hint}
use Rattle.rules.specs.Narrow.{kept, kept_number, is_answered, no_wider_than, actions_no_wider, group_narrows, narrows_source, narrows_from, narrows}
use Rattle.rules.proofs.Laws.{never}
use Rattle.reason_limits.specs.Limits.{first_failing}
use Rattle.reason_limits.proofs.First.{FirstFailing, failing_is_first}
use Rattle.reason_narrowing.specs.Breaches.{actions_named, first_wider, wider_breach, limit_breach, group_breach, source_breach, is_breach, broken_or, narrowing_from, narrowing_of}
use Rattle.reason_narrowing.specs.declared.Breach.{Breach}
use Rattle.reason_narrowing.specs.declared.Breach.TheVariants as breach
use Rattle.reason_narrowing.specs.declared.Narrowing.{Narrowing}
use Rattle.reason_narrowing.specs.declared.Narrowing.TheVariants.{Shown, Broken}

abbrev missing : Option ℕ → Bool
missing none = true
missing (some i) = false

and_true : (b : Bool) → b ≡ (b && true)
and_true true = refl
and_true false = refl

and_false : (b : Bool) → false ≡ (b && false)
and_false true = refl
and_false false = refl

-- an action that is no wider than another: the other is there
there : (a : Action) (o : Option Action) → no_wider_than a o ≡ true → present o ≡ true
there a none e = absurd (false≢true e)
there a (some b) e = refl

-- actions that are no wider: each is named, and none is wider
actions_are : (i : ℕ) (acts : List Action) (hints : List ℕ) (old : List Action) → actions_no_wider acts hints old ≡ (actions_named acts hints old && missing (first_wider i acts hints old))
unfolding actions_no_wider actions_named first_wider
actions_are i [] hints old = and_true (all_zero hints)
actions_are i (a ∷ rest) [] old = refl
actions_are i (a ∷ rest) (h ∷ hs) old = pick (no_wider_than a (get_elem? old h)) refl (actions_are (suc i) rest hs old)
  where
    pick : (b : Bool) → no_wider_than a (get_elem? old h) ≡ b → actions_no_wider rest hs old ≡ (actions_named rest hs old && missing (first_wider (suc i) rest hs old))
        → (b && actions_no_wider rest hs old) ≡ ((present (get_elem? old h) && actions_named rest hs old) && missing (if b then first_wider (suc i) rest hs old else some i))
    pick true d e = rw (there a (get_elem? old h) d) e
    pick false d e = and_false (present (get_elem? old h) && actions_named rest hs old)

-- limits that are all answered
limits_are : {A : Type 0} (test : A → Bool) (i : ℕ) (xs : List A) → all test xs ≡ missing (first_failing test i xs)
unfolding all first_failing
limits_are test i [] = refl
limits_are test i (x ∷ xs) = pick (test x) (limits_are test (suc i) xs)
  where
    pick : (b : Bool) → all test xs ≡ missing (first_failing test (suc i) xs) → (b && all test xs) ≡ missing (if b then first_failing test (suc i) xs else some i)
    pick true e = e
    pick false e = refl

-- a group that no test breaks
group_is : (n : Group) (hints : List ℕ) (o : Group) → not (is_breach (group_breach n hints o)) ≡ group_narrows n hints o
unfolding group_breach
group_is n hints o =
    rw (limits_are (is_answered n.limits) 0 o.limits, actions_are 0 n.actions hints o.actions)
    (pick (actions_named n.actions hints o.actions) (kept n.certifier o.certifier && kept_number n.mechanism o.mechanism) (first_failing (is_answered n.limits) 0 o.limits) (first_wider 0 n.actions hints o.actions))
  where
    pick : (a b : Bool) (l w : Option ℕ) → not (is_breach (if not a then breach.Hint else if not b then breach.Certifier else limit_breach l (wider_breach w))) ≡ (b && missing l && (a && missing w))
    pick false b l w = and_false (b && missing l)
    pick true false l w = refl
    pick true true (some i) w = refl
    pick true true none (some i) = refl
    pick true true none none = refl

source_is : (n : Group) (hints : List ℕ) (o : Option Group) → not (is_breach (source_breach n hints o)) ≡ narrows_source n hints o
source_is n hints none = refl
source_is n hints (some o) = group_is n hints o

abbrev is_shown : Narrowing → Bool
is_shown Shown = true
is_shown (Broken i b) = false

narrowing_is : (old : List Group) (low i : ℕ) (new : List Group) (hints : List Hint) → is_shown (narrowing_from old low i new hints) ≡ narrows_from old low new hints
unfolding narrowing_from narrows_from
narrowing_is old low i [] [] = refl
narrowing_is old low i [] (h ∷ hs) = refl
narrowing_is old low i (n ∷ ns) [] = refl
narrowing_is old low i (n ∷ ns) (h ∷ hs) =
    rw (← (source_is n h.actions (get_elem? old h.source))) (pick (leb low h.source) (source_breach n h.actions (get_elem? old h.source)) (narrowing_is old (suc h.source) (suc i) ns hs))
  where
    pick : (b : Bool) (x : Breach) → is_shown (narrowing_from old (suc h.source) (suc i) ns hs) ≡ narrows_from old (suc h.source) ns hs
        → is_shown (if b then broken_or x i (narrowing_from old (suc h.source) (suc i) ns hs) else Broken i breach.Hint) ≡ (b && not (is_breach x) && narrows_from old (suc h.source) ns hs)
    pick false x e = refl
    pick true breach.Nothing e = e
    pick true breach.Hint e = refl
    pick true breach.Certifier e = refl
    pick true (breach.Limit m) e = refl
    pick true (breach.Action a) e = refl

-- Nothing breaks it exactly where the hints show a narrowing.
pub shown_narrows : (old new : List Group) (hints : List Hint) → narrowing_of old new hints ≡ Shown → narrows old new hints ≡ true
shown_narrows old new hints e = sym (narrowing_is old 0 0 new hints) ∙ ap is_shown e

pub narrows_shown : (old new : List Group) (hints : List Hint) → narrows old new hints ≡ true → narrowing_of old new hints ≡ Shown
narrows_shown old new hints e = pick (narrowing_of old new hints) (narrowing_is old 0 0 new hints ∙ e)
  where
    pick : (x : Narrowing) → is_shown x ≡ true → x ≡ Shown
    pick Shown d = refl
    pick (Broken i b) d = absurd (false≢true d)

pub broken_narrows_not : (old new : List Group) (hints : List Hint) (i : ℕ) (b : Breach) → narrowing_of old new hints ≡ Broken i b → narrows old new hints ≡ false
broken_narrows_not old new hints i b e = sym (narrowing_is old 0 0 new hints) ∙ ap is_shown e

-- The new groups before the named group are, with their hints, a narrowing; with that group they are none.
pub record IsFirstBroken (old new : List Group) (hints : List Hint) (i : ℕ) : Type 0 where
  pub before : narrows old (take i new) (take i hints) ≡ true
  pub here : narrows old (take (suc i) new) (take (suc i) hints) ≡ false

broken_from : (old : List Group) (low i : ℕ) (new : List Group) (hints : List Hint) (j : ℕ) (b : Breach) → narrowing_from old low i new hints ≡ Broken j b
    → (m : ℕ) × (j ≡ i + m) × (narrows_from old low (take m new) (take m hints) ≡ true) × (narrows_from old low (take (suc m) new) (take (suc m) hints) ≡ false)
unfolding narrowing_from narrows_from
broken_from old low i [] [] j b e = absurd (never (cc))
broken_from old low i [] (h ∷ hs) j b e = let d : i ≡ j = cc in (zero, omega (arith, d), refl, refl)
broken_from old low i (n ∷ ns) [] j b e = let d : i ≡ j = cc in (zero, omega (arith, d), refl, refl)
broken_from old low i (n ∷ ns) (h ∷ hs) j b e =
    pick (leb low h.source) refl (is_breach (source_breach n h.actions (get_elem? old h.source))) refl e (broken_from old (suc h.source) (suc i) ns hs j b)
  where
    pick : (x : Bool) → leb low h.source ≡ x → (y : Bool) → is_breach (source_breach n h.actions (get_elem? old h.source)) ≡ y
        → (if x then (if y then Broken i (source_breach n h.actions (get_elem? old h.source)) else narrowing_from old (suc h.source) (suc i) ns hs) else Broken i breach.Hint) ≡ Broken j b
        → (narrowing_from old (suc h.source) (suc i) ns hs ≡ Broken j b → (m : ℕ) × (j ≡ suc i + m) × (narrows_from old (suc h.source) (take m ns) (take m hs) ≡ true) × (narrows_from old (suc h.source) (take (suc m) ns) (take (suc m) hs) ≡ false))
        → (m : ℕ) × (j ≡ i + m) × (narrows_from old low (take m (n ∷ ns)) (take m (h ∷ hs)) ≡ true) × (narrows_from old low (take (suc m) (n ∷ ns)) (take (suc m) (h ∷ hs)) ≡ false)
    pick false p y q z f = let d : i ≡ j = cc in (zero, omega (arith, d), refl, rw p)
    pick true p true q z f =
        let d : i ≡ j = cc in
        let s : narrows_source n h.actions (get_elem? old h.source) ≡ false = sym (source_is n h.actions (get_elem? old h.source)) ∙ ap not q in
        (zero, omega (arith, d), refl, rw (p, s))
    pick true p false q z f =
        let s : narrows_source n h.actions (get_elem? old h.source) ≡ true = sym (source_is n h.actions (get_elem? old h.source)) ∙ ap not q in
        let r = f z in
        (suc r.0, omega (arith, r.1), rw (p, s) r.2, rw (p, s) r.3)

pub broken_is_first : (old new : List Group) (hints : List Hint) (i : ℕ) (b : Breach) → narrowing_of old new hints ≡ Broken i b → IsFirstBroken old new hints i
broken_is_first old new hints i b e = found (broken_from old 0 0 new hints i b e)
  where
    found : (m : ℕ) × (i ≡ 0 + m) × (narrows_from old 0 (take m new) (take m hints) ≡ true) × (narrows_from old 0 (take (suc m) new) (take (suc m) hints) ≡ false) → IsFirstBroken old new hints i
    found (m, d, p, q) = let a : m ≡ i = omega (arith, d) in rw (← a) (record { before = p; here = q })

-- A limit of the source that is named is the first that no new limit answers.
pub limit_is_first : (n : Group) (hints : List ℕ) (o : Group) (i : ℕ) → group_breach n hints o ≡ breach.Limit i → FirstFailing (is_answered n.limits) o.limits i
unfolding group_breach
limit_is_first n hints o i e =
    failing_is_first (is_answered n.limits) o.limits i
    (pick (actions_named n.actions hints o.actions) (kept n.certifier o.certifier && kept_number n.mechanism o.mechanism) (first_failing (is_answered n.limits) 0 o.limits) (first_wider 0 n.actions hints o.actions) e)
  where
    pick : (a b : Bool) (l w : Option ℕ) → (if not a then breach.Hint else if not b then breach.Certifier else limit_breach l (wider_breach w)) ≡ breach.Limit i → l ≡ some i
    pick false b l w d = absurd (never (cc))
    pick true false l w d = absurd (never (cc))
    pick true true (some m) w d = let q : m ≡ i = cc in ap some q
    pick true true none (some m) d = absurd (never (cc))
    pick true true none none d = absurd (never (cc))
