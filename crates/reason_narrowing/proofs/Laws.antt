-- The tests of this crate in the definitions' terms, and the turns of its loops over actions.
use Prim.Native.Nat.{ℕ, zero, suc, ◌+◌, ◌/◌, ◌≤◌, ◌<◌}
use native.Mathlib.Omega.{arith}
use mathlib.Core.Path.{◌≡◌, refl, sym, ◌∙◌, ap}
use mathlib.Core.List.{List, [], ◌∷◌, map}
use mathlib.Core.Option.{Option, none, some}
use mathlib.Core.Bool.{Bool, true, false, not, ◌&&◌, cond, false≢true}
use borrow.Author.Tests.{ltb-true, ltb-false, lt-ltb, le-ltb}
use lib.ListN.{length, get_elem?}
use lib.Dec.{eqb, ltb}
use Rattle.std.specs.Prelude.{if◌then◌else◌}
use Rattle.std.specs.Prelude as option
use Rattle.std.specs.List.{position_or_len}
use Rattle.rules.specs.Basics.{Bytes, kind, all_zero, present, records}
use Rattle.rules.specs.Acl.{blobfile_rule_next, Action, action_of, actions_of, Group}
use Rattle.rules.specs.Narrow.{kept, kept_number, is_answered, no_wider, no_wider_than}
use Rattle.rules.proofs.Laws.{chunks_length}
use Rattle.acl_groups.specs.Parts.{said}
use Rattle.gate_narrowing.proofs.Laws.{empty}
use Rattle.reason_limits.specs.Limits.{first_failing}
use Rattle.reason_narrowing.specs.Breaches.{actions_named, first_wider, group_breach}
use Rattle.reason_narrowing.specs.declared.Breach.TheVariants as breach

-- The first element that fails a test, as `position` finds it: k elements of l pass before it.
module _ (i k l : ℕ) where
  ltb_suc : ltb (1 + k) (suc l) ≡ ltb k l
  ltb_suc = both (ltb k l) refl
    where
      both : (b : Bool) → ltb k l ≡ b → ltb (1 + k) (suc l) ≡ b
      both true e = let h = ltb-true k l e in lt-ltb (1 + k) (suc l) (omega arith)
      both false e = let h = ltb-false k l e in le-ltb (1 + k) (suc l) (omega arith)

  moved : (b : Bool) → said (λ n. i + n) (cond b (option.Some (1 + k)) option.None) ≡ said (λ n. suc i + n) (cond b (option.Some k) option.None)
  moved true = let e : i + (1 + k) ≡ suc i + k = omega arith in ap some e
  moved false = refl

  one_more : (t : Bool) (y : Option ℕ) → said (λ n. suc i + n) (cond (ltb k l) (option.Some k) option.None) ≡ y
      → said (λ n. i + n) (cond (ltb (cond (not (not t)) (1 + k) 0) (suc l)) (option.Some (cond (not (not t)) (1 + k) 0)) option.None) ≡ (if t then y else some i)
  one_more true y e = rw ltb_suc (moved (ltb k l) ∙ e)
  one_more false y e = let z : i + 0 ≡ i = omega arith in rw (lt-ltb 0 (suc l) (omega arith)) (ap some z)

position_from : {A B : Type 0} (p : B → Bool) (f : A → B) (xs : List A) (i : ℕ)
    → said (λ n. i + n) (cond (ltb (position_or_len (λ x. not (p (f x))) xs) (length xs)) (option.Some (position_or_len (λ x. not (p (f x))) xs)) option.None) ≡ first_failing p i (map f xs)
unfolding first_failing
position_from p f [] i = refl
position_from p f (x ∷ xs) i = one_more i (position_or_len (λ z. not (p (f z))) xs) (length xs) (p (f x)) (first_failing p (suc i) (map f xs)) (position_from p f xs (suc i))

from_zero : (o : option.Option ℕ) → said (λ n. n) o ≡ said (λ n. 0 + n) o
from_zero option.None = refl
from_zero (option.Some n) = let e : n ≡ 0 + n = omega arith in ap some e

pub position_read : {A B : Type 0} (p : B → Bool) (f : A → B) (xs : List A) (o : option.Option ℕ)
    → o ≡ cond (ltb (position_or_len (λ x. not (p (f x))) xs) (length xs)) (option.Some (position_or_len (λ x. not (p (f x))) xs)) option.None
    → said (λ n. n) o ≡ first_failing p 0 (map f xs)
position_read p f xs o e = from_zero o ∙ ap (λ (z : option.Option ℕ). said (λ n. 0 + n) z) e ∙ position_from p f xs 0

-- an action against the action of its hint
pub wider_than_none : (a : Action) (g : Option Action) → none ≡ g → false ≡ no_wider_than a g
wider_than_none a g e = ap (no_wider_than a) e

pub no_wider_there : (a o : Action) (g : Option Action) (r : Bool) → some o ≡ g → r ≡ no_wider a o → r ≡ no_wider_than a g
no_wider_there a o g r e p = p ∙ ap (no_wider_than a) e

-- a group has no more actions than records
actions_few : (rs : List Bytes) → length (actions_of rs) ≤ length rs
unfolding actions_of
actions_few [] = omega arith
actions_few (r ∷ rs) = pick (eqb (kind r) 1) (eqb (kind r) 2) (eqb (kind r) 15) (actions_few rs)
  where
    pick : (a b c : Bool) → length (actions_of rs) ≤ length rs
        → length (if a then [] else if b then actions_of rs else if c then actions_of rs else action_of r (blobfile_rule_next rs) ∷ actions_of rs) ≤ length (r ∷ rs)
    pick true b c h = omega arith
    pick false true c h = omega arith
    pick false false true h = omega arith
    pick false false false h = omega arith

pub actions_fit : (s : Bytes) → length (actions_of (records s)) ≤ length s
unfolding records
actions_fit s = let few = actions_few (records s) in let f = chunks_length (length s / 64) s in omega arith

-- whether a list has an element at an index
within : {A : Type 0} (xs : List A) (h : ℕ) → h < length xs → present (get_elem? xs h) ≡ true
within [] h l = absurd (omega arith)
within (x ∷ xs) zero l = refl
within (x ∷ xs) (suc h) l = within xs h (omega arith)

past_end : {A : Type 0} (xs : List A) (h : ℕ) → length xs ≤ h → present (get_elem? xs h) ≡ false
past_end [] h l = refl
past_end (x ∷ xs) zero l = absurd (omega arith)
past_end (x ∷ xs) (suc h) l = past_end xs h (omega arith)

-- A loop over new actions and the bytes of their hint: each byte names an action.
module _ (olds acts : List Action) (hints : List ℕ) (x : Bool) (inv : actions_named acts hints olds ≡ x) where
  pub named_over : (r : Bool) → acts ≡ [] → r ≡ all_zero hints → r ≡ x
  unfolding actions_named
  named_over r e p = p ∙ sym (ap (λ (z : List Action). actions_named z hints olds) e) ∙ inv

  module _ (a : Action) (more : List Action) (e : acts ≡ a ∷ more) where
    pub named_short : length hints ≡ 0 → false ≡ x
    unfolding actions_named
    named_short l = let d = empty hints l in rw (e, d) at inv

    module _ (h : ℕ) (others : List ℕ) (d : hints ≡ h ∷ others) where
      named_step : (present (get_elem? olds h) && actions_named more others olds) ≡ x
      unfolding actions_named
      named_step = rw (e, d) at inv

      pub named_nothing : none ≡ get_elem? olds h → false ≡ x
      named_nothing f = rw (← f) at named_step

      pub named_more : (o : Action) → some o ≡ get_elem? olds h → actions_named more others olds ≡ x
      named_more o f = rw (← f) at named_step

      -- the same by the number of actions
      module _ (n : ℕ) (count : n ≡ length olds) where
        pub named_past : n ≤ h → false ≡ x
        named_past l = pick (get_elem? olds h) refl (past_end olds h (omega arith))
          where
            pick : (g : Option Action) → g ≡ get_elem? olds h → present g ≡ false → false ≡ x
            pick none f p = named_nothing f
            pick (some o) f p = absurd (false≢true (sym p))

        pub named_within : h < n → actions_named more others olds ≡ x
        named_within l = pick (get_elem? olds h) refl (within olds h (omega arith))
          where
            pick : (g : Option Action) → g ≡ get_elem? olds h → present g ≡ true → actions_named more others olds ≡ x
            pick none f p = absurd (false≢true p)
            pick (some o) f p = named_more o f

-- A loop over new actions and the bytes of their hint: the first that is wider.
module _ (olds acts : List Action) (hints : List ℕ) (i : ℕ) (x : Option ℕ) (inv : first_wider i acts hints olds ≡ x) where
  pub wider_none : acts ≡ [] → none ≡ x
  unfolding first_wider
  wider_none e = rw e at inv

  module _ (a : Action) (more : List Action) (e : acts ≡ a ∷ more) where
    pub wider_short : length hints ≡ 0 → some i ≡ x
    unfolding first_wider
    wider_short l = let d = empty hints l in rw (e, d) at inv

    module _ (h : ℕ) (others : List ℕ) (d : hints ≡ h ∷ others) (t : Bool) (p : t ≡ no_wider_than a (get_elem? olds h)) where
      step : (if t then first_wider (suc i) more others olds else some i) ≡ x
      unfolding first_wider
      step = rw (e, d, ← p) at inv

      pub wider_here : t ≡ false → some i ≡ x
      wider_here y = rw y at step

      pub wider_more : t ≡ true → (j : ℕ) → j ≡ suc i → first_wider j more others olds ≡ x
      wider_more y j q = ap (λ (n : ℕ). first_wider n more others olds) q ∙ rw y at step

-- A group by its tests, one after the other.
module _ (n : Group) (hints : List ℕ) (o : Group) (a : Bool) (ea : a ≡ actions_named n.actions hints o.actions) where
  pub group_hint : a ≡ false → breach.Hint ≡ group_breach n hints o
  unfolding group_breach
  group_hint h = sym (rw (sym ea ∙ h))

  module _ (h : a ≡ true) (b : Bool) (eb : b ≡ (kept n.certifier o.certifier && kept_number n.mechanism o.mechanism)) where
    pub group_certifier : b ≡ false → breach.Certifier ≡ group_breach n hints o
    unfolding group_breach
    group_certifier k = sym (rw (sym ea ∙ h, sym eb ∙ k))

    module _ (k : b ≡ true) where
      pub group_limit : (i : ℕ) → some i ≡ first_failing (is_answered n.limits) 0 o.limits → breach.Limit i ≡ group_breach n hints o
      unfolding group_breach
      group_limit i e = sym (rw (sym ea ∙ h, sym eb ∙ k, ← e))

      module _ (e : none ≡ first_failing (is_answered n.limits) 0 o.limits) where
        pub group_action : (i : ℕ) → some i ≡ first_wider 0 n.actions hints o.actions → breach.Action i ≡ group_breach n hints o
        unfolding group_breach
        group_action i d = sym (rw (sym ea ∙ h, sym eb ∙ k, ← e, ← d))

        pub group_sound : none ≡ first_wider 0 n.actions hints o.actions → breach.Nothing ≡ group_breach n hints o
        unfolding group_breach
        group_sound d = sym (rw (sym ea ∙ h, sym eb ∙ k, ← e, ← d))
