-- What a narrowed group grants, its source grants: the three tests of document 01, admits, certified and unspent, each go from a new group to its
-- source (for request m). Two wrong products that this rules out: one whose narrowing lets a limit be dropped, and one whose narrowing lets a
-- certifier go.
use Prim.Native.Nat.{ℕ, ◌≤◌}
use native.Mathlib.Omega.{arith}
use mathlib.Core.Path.{◌≡◌, refl, ◌∙◌}
use mathlib.Core.Logic.{inl, inr}
use mathlib.Core.List.{List, [], ◌∷◌}
use mathlib.Core.Option.{Option, none, some}
use mathlib.Core.Bool.{Bool, true, false, ◌&&◌, false≢true}
use lib.ListN.{get_or}
use lib.Dec.{eqb, ltb}
use borrow.Author.Tests.{eqb-true, eq-eqb, leb-true, ltb-true, lt-ltb}
use Rattle.rules.specs.Sizes.{full_count}
use Rattle.rules.specs.Basics.{Bytes, any, all, Every}
use Rattle.rules.specs.Acl.{Limit, Group}
use Rattle.rules.specs.Request.{Wanted, Certificate, Request}
use Rattle.rules.specs.Grant.{admits, group_admits, certified_by, certified, limit_left, limits_left}
use Rattle.rules.specs.Narrow.{kept, kept_number, answers, is_answered, group_narrows}
use Rattle.theorems.specs.Demands.{names}
use Rattle.theorems.specs.Certification.{Presents, Vouched}
use Rattle.rules.proofs.Laws.{never, and_left, and_right, and_both, every_map, any_here, any_some, same_eq}
use Rattle.theorems.specs.Safety.{KnownUse, Confined}
use Rattle.theorems.proofs.Lists.{every_all}
use Rattle.theorems.proofs.Certification.{vouched_is}
use Rattle.theorems.proofs.Monotone.{actions_confined}

ruleset conj = (and_left, and_right, and_both)

-- a test of every element, and of some element
pub all_every : {A : Type 0} (p : A → Bool) (xs : List A) → all p xs ≡ true → Every (λ x. p x ≡ true) xs
unfolding all
all_every p [] e = tt
all_every p (x ∷ xs) e = (and_left (p x) (all p xs) e, all_every p xs (and_right (p x) (all p xs) e))

any_mono : {A : Type 0} (p q : A → Bool) (xs : List A) → ((x : A) → p x ≡ true → q x ≡ true) → any p xs ≡ true → any q xs ≡ true
any_mono p q xs f e = let s = any_some _ p xs (any_here q xs) e in s.1 (f s.0 s.2)

-- what holds of every element for each y, holds of every element for every y
every_swap : {A B : Type 0} (P : B → A → Type 0) (xs : List A) → ((y : B) → Every (P y) xs) → Every (λ x. (y : B) → P y x) xs
every_swap P [] f = tt
every_swap P (x ∷ xs) f = (λ y. (f y).0, every_swap P xs (λ y. (f y).1))

-- A limit that answers another leaves no more.
module _ (ledger account : List ℕ) (own own' elapsed : ℕ) (fewer : own' ≤ own) (lower : (c : ℕ) → get_or account c 0 ≤ get_or ledger c 0) where
  pub limit_left_lem : (o n : Limit) → answers o n ≡ true → limit_left ledger own elapsed n ≡ true → limit_left account own' elapsed o ≡ true
  unfolding answers limit_left
  limit_left_lem o n e d =
      let s = eqb-true n.sort o.sort (search conj) in
      let c = eqb-true n.counter o.counter (search conj) in
      let m = leb-true n.maximum o.maximum (search conj) in
      pick s c m (eqb o.sort 1) refl (eqb o.sort 2) refl
    where
      pick : n.sort ≡ o.sort → n.counter ≡ o.counter → n.maximum ≤ o.maximum → (t : Bool) → eqb o.sort 1 ≡ t → (u : Bool) → eqb o.sort 2 ≡ u → limit_left account own' elapsed o ≡ true
      pick s c m true t u v =
          let x : ltb own n.maximum ≡ true = rw (s, t) at d in
          let y = ltb-true own n.maximum x in
          rw t (lt-ltb own' o.maximum (omega arith))
      pick s c m false t true v =
          let x : (ltb (get_or ledger n.counter 0) n.maximum && ltb (get_or ledger n.counter 0) full_count) ≡ true = rw (s, t, v) at d in
          let y = ltb-true (get_or ledger n.counter 0) n.maximum (search conj) in
          let z = ltb-true (get_or ledger n.counter 0) full_count (search conj) in
          let w : get_or account o.counter 0 ≤ get_or ledger n.counter 0 = rw c (lower o.counter) in
          rw (t, v)
          (and_both _ _ (lt-ltb (get_or account o.counter 0) o.maximum (omega arith)) (lt-ltb (get_or account o.counter 0) full_count (omega arith)))
      pick s c m false t false v =
          let x : ltb elapsed n.maximum ≡ true = rw (s, t, v) at d in
          let y = ltb-true elapsed n.maximum x in
          rw (t, v) (lt-ltb elapsed o.maximum (omega arith))

-- What vouches for a key at a mechanism vouches for it at one that was kept or is no longer named.
presents_weaker : (cs : List Certificate) (k : Bytes) (m j : Option ℕ) → kept_number m j ≡ true → Presents cs k m → Presents cs k j
presents_weaker cs k m j d p = record { certificate = p.certificate; presented = p.presented; hash = p.hash; mechanism = λ x e. at m j d p.mechanism x e }
  where
    at : (m j : Option ℕ) → kept_number m j ≡ true → ((x : ℕ) → m ≡ some x → p.certificate.mechanism ≡ x) → (x : ℕ) → j ≡ some x → p.certificate.mechanism ≡ x
    at m none d f x e = absurd (never (cc))
    at none (some y) d f x e = absurd (false≢true d)
    at (some z) (some y) d f x e = let q : y ≡ x = cc in f z refl ∙ eqb-true z y d ∙ q

vouched_weaker : (q : Request) (k : Bytes) (m j : Option ℕ) → kept_number m j ≡ true → Vouched q k m → Vouched q k j
vouched_weaker q k m j d (inl p) = inl (presents_weaker q.certificates k m j d p)
vouched_weaker q k m j d (inr c) = inr (c.0, c.1, (c.2.0, c.2.1, presents_weaker q.certificates c.2.0 m j d c.2.2))

module _ (n : Group) (hints : List ℕ) (o : Group) (narrower : group_narrows n hints o ≡ true) where
  pub admits_source : (km0 : Bytes) (q : Request) → KnownUse q.wanted → group_admits km0 q n ≡ true → group_admits km0 q o ≡ true
  admits_source km0 q k e =
      let old = every_swap (λ (y : Bytes × Wanted) a. admits y.0 y.1 a ≡ true → any (admits y.0 y.1) o.actions ≡ true) o.actions
      (λ y. any_here (admits y.0 y.1) o.actions) in
      let new = actions_confined good n.actions hints o.actions (search conj) (every_map _ (Confined good) o.actions (λ a f km0 w k d. f (km0, w) d) old) in
      let s = any_some (Confined good) (admits km0 q.wanted) n.actions new e in
      s.1 km0 q.wanted k s.2
    where
      good : Bytes → Wanted → Type 0
      good km0 w = any (admits km0 w) o.actions ≡ true

  -- the same certificate serves, and the same chain leads to it
  pub certified_source : (q : Request) → certified q n ≡ true → certified q o ≡ true
  certified_source q e = pick n.certifier o.certifier n.mechanism o.mechanism (search conj) (search conj) e
    where
      pick : (h k : Option Bytes) (m j : Option ℕ) → kept h k ≡ true → kept_number m j ≡ true
          → certified_by h m q.wanted q.certificates q.delegations ≡ true → certified_by k j q.wanted q.certificates q.delegations ≡ true
      pick h none m j d f g = refl
      pick none (some k) m j d f g = absurd (false≢true d)
      pick (some h) (some k) m j d f g = rw (← (same_eq h k d)) ((vouched_is q h j).1 (vouched_weaker q h m j f ((vouched_is q h m).0 g)))

  answered : all (is_answered n.limits) o.limits ≡ true
  answered = search conj

  -- what is left of the limits, under an account that counts no more than the ledger does
  pub left_source : (ledger account : List ℕ) (own own' elapsed : ℕ) → own' ≤ own → ((c : ℕ) → get_or account c 0 ≤ get_or ledger c 0) → limits_left ledger own elapsed n.limits ≡ true → limits_left account own' elapsed o.limits ≡ true
  unfolding is_answered
  left_source ledger account own own' elapsed fewer lower e =
      let left : Every (λ m. limit_left ledger own elapsed m ≡ true) n.limits = all_every _ n.limits e in
      every_all _ o.limits
      (every_map _ _ o.limits
      (λ m f.
      let s = any_some _ (answers m) n.limits left f in
      limit_left_lem ledger account own own' elapsed fewer lower m s.0 s.2 s.1)
      (all_every (is_answered n.limits) o.limits answered))

  -- a counter that the source names, the new group names
  pub names_source : (c : ℕ) → names c o.limits ≡ true → names c n.limits ≡ true
  unfolding names is_answered answers
  names_source c e =
      let s = any_some _ (λ m. eqb m.sort 2 && eqb m.counter c) o.limits (all_every (is_answered n.limits) o.limits answered) e in
      any_mono (answers s.0) (λ m. eqb m.sort 2 && eqb m.counter c) n.limits
      (λ m f.
      let x = eqb-true m.sort s.0.sort (search conj) in
      let y = eqb-true m.counter s.0.counter (search conj) in
      let u = eqb-true s.0.sort 2 (search conj) in
      let v = eqb-true s.0.counter c (search conj) in
      and_both _ _ (eq-eqb m.sort 2 (omega arith)) (eq-eqb m.counter c (omega arith)))
      s.1
