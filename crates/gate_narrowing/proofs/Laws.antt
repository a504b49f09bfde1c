-- The tests of this crate in the definitions' terms, and the turns of its loop over actions.
use Prim.Native.Nat.{ℕ, zero, suc, ◌+◌, ◌-◌, ◌≤◌}
use native.Mathlib.Omega.{arith}
use mathlib.Core.Path.{◌≡◌, refl, sym, ◌∙◌, ap}
use mathlib.Core.List.{List, [], ◌∷◌, map}
use mathlib.Core.Option.{none, some}
use mathlib.Core.Bool.{Bool, true, false, ◌&&◌, ◌||◌}
use denote.Ref.{Bor}
use lib.ListN.{length, drop, get_elem?}
use lib.Seq.{drop-drop}
use lib.Dec.{eqb, leb}
use Rattle.std.specs.List.{list_any, list_all}
use Rattle.std.specs.Prelude as option
use Rattle.std.specs.Iterator.{YieldsFirstBy, SkipsThenYields}
use Rattle.rules.specs.Basics.{Bytes, any, all, all_zero, byte, number, records}
use Rattle.rules.specs.Acl.{Action, actions_of, Group, groups_of, limit_of}
use Rattle.rules.specs.Narrow.{no_wider, actions_no_wider, answers}
use Rattle.acl_groups.specs.declared.walks.Actions.{Actions}
use Rattle.acl_groups.specs.declared.walks.Groups.{Groups}
use Rattle.acl_groups.specs.Parts.{said, action_read, group_read}
use Rattle.acl_groups.proofs.Nth.{nth_left}

-- What is at an index of a list, by what is left of it from there on.
get_first : {A : Type 0} (xs : List A) (n : ℕ) (y : A) (ys : List A) → drop n xs ≡ y ∷ ys → get_elem? xs n ≡ some y
get_first {A = A} [] zero y ys e = ap (λ (l : List A). get_elem? l 0) e
get_first {A = A} [] (suc n) y ys e = ap (λ (l : List A). get_elem? l 0) e
get_first {A = A} (x ∷ xs) zero y ys e = ap (λ (l : List A). get_elem? l 0) e
get_first (x ∷ xs) (suc n) y ys e = get_first xs n y ys e

get_none : {A : Type 0} (xs : List A) (n : ℕ) → drop n xs ≡ [] → get_elem? xs n ≡ none
get_none [] n e = refl
get_none {A = A} (x ∷ xs) zero e = ap (λ (l : List A). get_elem? l 0) e
get_none (x ∷ xs) (suc n) e = get_none xs n e

-- what is left after more, and after one more
pub drop_on : {A : Type 0} (xs ys : List A) (low n : ℕ) → ys ≡ drop low xs → low ≤ n → drop (n - low) ys ≡ drop n xs
drop_on xs ys low n e h = let k : low + (n - low) ≡ n = omega arith in ap (drop (n - low)) e ∙ drop-drop (n - low) low xs ∙ ap (λ (j : ℕ). drop j xs) k

drop_past : {A : Type 0} (xs : List A) (n : ℕ) (ys : List A) → drop n xs ≡ ys → drop 1 ys ≡ drop (n + 1) xs
drop_past xs n ys e = sym (ap (drop 1) e) ∙ drop-drop 1 n xs

pub empty : {A : Type 0} (xs : List A) → length xs ≡ 0 → xs ≡ []
empty [] e = refl
empty (x ∷ xs) e = absurd (omega arith)

-- What `nth` gives of a list, and what is left of it, where the iterator is n items before item h.
module _ {S A B : Type 0} (view : A → B) (rest : S → List B) (items : List B) (h n : ℕ) (s u : S) (e : drop n (rest s) ≡ drop h items) where
  pub nth_found : (r : option.Option A) → SkipsThenYields (YieldsFirstBy view rest) s n r u → said view r ≡ get_elem? items h
  nth_found option.None p = let m = nth_left view rest n s u option.None p in sym (get_none items h (sym e ∙ m.0))
  nth_found (option.Some x) p = sym (get_first items h (view x) (rest u) (sym e ∙ nth_left view rest n s u (option.Some x) p))

  pub nth_past : (r : option.Option A) → SkipsThenYields (YieldsFirstBy view rest) s n r u → rest u ≡ drop (h + 1) items
  nth_past option.None p = let m = nth_left view rest n s u option.None p in m.1 ∙ drop_past items h [] (sym e ∙ m.0)
  nth_past (option.Some x) p = drop_past items h (view x ∷ rest u) (sym e ∙ nth_left view rest n s u (option.Some x) p)

-- the actions and the groups that the walks over them show
abbrev pub action_seen : Bor Bytes × Bor Bytes → Action
action_seen p = action_read p.0.now p.1.now

abbrev pub actions_seen : Actions → List Action
actions_seen s = actions_of (records s.0.now)

abbrev pub group_seen : Bor Bytes × Bor Bytes → Group
group_seen p = group_read p.0.now p.1.now

abbrev pub groups_seen : Groups → List Group
groups_seen s = groups_of (records s.0.now)

-- the tests of all the limits of a group, as the code reads them
pub any_read : {A B : Type 0} (p : B → Bool) (f : A → B) (xs : List A) → list_any (λ x. p (f x)) xs ≡ any p (map f xs)
unfolding any
any_read p f [] = refl
any_read p f (x ∷ xs) = ap (λ (t : Bool). p (f x) || t) (any_read p f xs)

pub all_read : {A B : Type 0} (p : B → Bool) (f : A → B) (xs : List A) → list_all (λ x. p (f x)) xs ≡ all p (map f xs)
unfolding all
all_read p f [] = refl
all_read p f (x ∷ xs) = ap (λ (t : Bool). p (f x) && t) (all_read p f xs)

-- a limit that answers another
pub answers_is : (old new : Bytes) (x y : ℕ) → x ≡ number 8 4 new → y ≡ number 8 4 old
    → (eqb (byte 4 new) (byte 4 old) && eqb (byte 5 new) (byte 5 old) && leb x y) ≡ answers (limit_of old) (limit_of new)
unfolding answers
answers_is old new x y p q = rw (p, q)

-- A loop over the actions of a new group and the bytes of its hint: what is left has the whole's answer.
module _ (olds acts : List Action) (hints : List ℕ) (x : Bool) (inv : actions_no_wider acts hints olds ≡ x) where
  pub hints_over : (r : Bool) → acts ≡ [] → r ≡ all_zero hints → r ≡ x
  unfolding actions_no_wider
  hints_over r e p = p ∙ sym (ap (λ (z : List Action). actions_no_wider z hints olds) e) ∙ inv

  module _ (a : Action) (more : List Action) (e : acts ≡ a ∷ more) where
    pub hints_short : length hints ≡ 0 → false ≡ x
    unfolding actions_no_wider
    hints_short l = let d = empty hints l in rw (e, d) at inv

    module _ (h : ℕ) (others : List ℕ) (d : hints ≡ h ∷ others) where
      pub action_missing : none ≡ get_elem? olds h → false ≡ x
      unfolding actions_no_wider
      action_missing f = rw (e, d, ← f) at inv

      module _ (o : Action) (f : some o ≡ get_elem? olds h) (t : Bool) (p : t ≡ no_wider a o) where
        step : (t && actions_no_wider more others olds) ≡ x
        unfolding actions_no_wider
        step = rw (e, d, ← f, ← p) at inv

        pub action_wider : t ≡ false → false ≡ x
        action_wider y = rw y at step

        pub action_kept : t ≡ true → actions_no_wider more others olds ≡ x
        action_kept y = rw y at step
