-- What leads where, by sets: a delegation of a set passes a test exactly if the set has a member among those that pass it.
use Prim.Native.Nat.{ℕ, zero, suc, ◌+◌, ◌*◌, ◌/◌, ◌%◌, ◌≤◌, ◌<◌, min}
use native.Mathlib.Omega.{arith}
use mathlib.Core.Path.{◌≡◌, refl, sym, ◌∙◌, ap}
use mathlib.Core.Logic.{◌⊎◌, inl, inr}
use mathlib.Core.List.{List, [], ◌∷◌}
use mathlib.Core.Option.{Option}
use mathlib.Core.Bool.{Bool, true, false, not, ◌&&◌, ◌||◌}
use borrow.Author.Tests.{eq-eqb, ne_eqb, eqb-true, eqb-false}
use lib.ListN.{length, get_or}
use lib.Bits.{bit_and, and_step, and_zero_r}
use lib.Dec.{eqb}
use Rattle.std.specs.Prelude.{if◌then◌else◌}
use Rattle.rules.specs.Basics.{Bytes, any, same, part, number, flag, optional, matches_number, set_of}
use Rattle.rules.specs.Request.{Certificate, certificate_of, Delegation, delegation_of, delegations_of}
use Rattle.rules.specs.Chain.{serves, holds}
use Rattle.rules.proofs.Laws.{same_eq, eq_same}
use Rattle.gate_certification.specs.Levels.{any_in, leads_to, leads_to_presented, starts_at, continues, ends_at, Links}

two : (n : ℕ) → (n % 2 ≡ 0) ⊎ (n % 2 ≡ 1)
two n = pick (n % 2) refl
  where
    pick : (r : ℕ) → n % 2 ≡ r → (n % 2 ≡ 0) ⊎ (n % 2 ≡ 1)
    pick zero e = inl e
    pick (suc r) e = inr (omega arith)

and_digit : (a d m : ℕ) → d ≤ 1 → bit_and a (d + 2 * m) ≡ min (a % 2) d + 2 * bit_and (a / 2) m
and_digit a d m h =
    let x : (d + 2 * m) / 2 ≡ m = omega arith in
    let y : (d + 2 * m) % 2 ≡ d = omega arith in
    and_step a (d + 2 * m) ∙ rw (x, y) (omega arith)

zero_twice : (n : ℕ) → eqb (0 + 2 * n) 0 ≡ eqb n 0
zero_twice n = pick (eqb n 0) refl
  where
    pick : (b : Bool) → eqb n 0 ≡ b → eqb (0 + 2 * n) 0 ≡ b
    pick true q = let e = eqb-true n 0 q in eq-eqb (0 + 2 * n) 0 (omega arith)
    pick false q = ne_eqb (0 + 2 * n) 0 (λ e. eqb-false n 0 q (omega arith))

pub any_in_and : (test : Delegation → Bool) (s : ℕ) (ds : List Delegation) → any_in s test ds ≡ not (eqb (bit_and s (set_of test ds)) 0)
unfolding any_in set_of
any_in_and test s [] = sym (ap (λ (n : ℕ). not (eqb n 0)) (and_zero_r s))
any_in_and test s (d ∷ ds) = pick (test d) (two s) (any_in_and test (s / 2) ds)
  where
    m : ℕ
    m = set_of test ds

    pick : (b : Bool) → (s % 2 ≡ 0) ⊎ (s % 2 ≡ 1) → any_in (s / 2) test ds ≡ not (eqb (bit_and (s / 2) m) 0)
        → (eqb (s % 2) 1 && b || any_in (s / 2) test ds) ≡ not (eqb (bit_and s ((if b then 1 else 0) + 2 * m)) 0)
    pick true (inl e) i =
        let a : bit_and s (1 + 2 * m) ≡ 0 + 2 * bit_and (s / 2) m = and_digit s 1 m (omega arith) ∙ rw e in
        rw (a, e) (i ∙ sym (ap not (zero_twice (bit_and (s / 2) m))))
    pick true (inr e) i =
        let a : bit_and s (1 + 2 * m) ≡ 1 + 2 * bit_and (s / 2) m = and_digit s 1 m (omega arith) ∙ rw e in
        let z : eqb (1 + 2 * bit_and (s / 2) m) 0 ≡ false = ne_eqb (1 + 2 * bit_and (s / 2) m) 0 (λ q. absurd (omega arith)) in
        rw (a, z, e)
    pick false (inl e) i =
        let a : bit_and s (0 + 2 * m) ≡ 0 + 2 * bit_and (s / 2) m = and_digit s 0 m (omega arith) ∙ rw e in
        rw (a, e) (i ∙ sym (ap not (zero_twice (bit_and (s / 2) m))))
    pick false (inr e) i =
        let a : bit_and s (0 + 2 * m) ≡ 0 + 2 * bit_and (s / 2) m = and_digit s 0 m (omega arith) ∙ rw e in
        rw (a, e) (i ∙ sym (ap not (zero_twice (bit_and (s / 2) m))))

-- two hashes are the same either way
same_back : (x y : Bytes) → same x y ≡ same y x
same_back x y = pick (same x y) refl (same y x) refl
  where
    pick : (a : Bool) → same x y ≡ a → (b : Bool) → same y x ≡ b → a ≡ b
    pick true p true q = refl
    pick true p false q = sym (eq_same y x (sym (same_eq x y p))) ∙ q
    pick false p true q = sym p ∙ eq_same x y (sym (same_eq y x q))
    pick false p false q = refl

ends_split : (e s a m S T : Bool) → ((((e && s) || a) && m) || ((e && S) || T)) ≡ ((e && ((s && m) || S)) || ((a && m) || T))
ends_split false s a m S T = refl
ends_split true true true true true T = refl
ends_split true true true true false T = refl
ends_split true true true false true T = refl
ends_split true true true false false T = refl
ends_split true true false true true T = refl
ends_split true true false true false T = refl
ends_split true true false false true T = refl
ends_split true true false false false T = refl
ends_split true false true true true T = refl
ends_split true false true true false T = refl
ends_split true false true false true T = refl
ends_split true false true false false T = refl
ends_split true false false true true T = refl
ends_split true false false true false T = refl
ends_split true false false false true T = refl
ends_split true false false false false T = refl

ends_none : (m : Option ℕ) (s : ℕ) (cs : List Certificate) → any (ends_at m [] s) cs ≡ false
unfolding any ends_at any_in
ends_none m s [] = refl
ends_none m s (c ∷ cs) = ends_none m s cs

ends_first : (m : Option ℕ) (s : ℕ) (d : Delegation) (ds : List Delegation) (cs : List Certificate)
    → any (ends_at m (d ∷ ds) s) cs ≡ (eqb (s % 2) 1 && any (serves d.to m) cs || any (ends_at m ds (s / 2)) cs)
unfolding any ends_at any_in leads_to serves
ends_first m s d ds [] = sym (none (eqb (s % 2) 1))
  where
    none : (b : Bool) → (b && false || false) ≡ false
    none true = refl
    none false = refl
ends_first m s d ds (c ∷ cs) =
    ap (λ (b : Bool). (((eqb (s % 2) 1 && same d.to c.hash) || any_in (s / 2) (leads_to c.hash) ds) && matches_number m c.mechanism) || b) (ends_first m s d ds cs)
    ∙ ends_split (eqb (s % 2) 1) (same d.to c.hash) (any_in (s / 2) (leads_to c.hash) ds) (matches_number m c.mechanism) (any (serves d.to m) cs) (any (ends_at m ds (s / 2)) cs)
    ∙ ap (λ (b : Bool). (eqb (s % 2) 1 && ((b && matches_number m c.mechanism) || any (serves d.to m) cs)) || ((any_in (s / 2) (leads_to c.hash) ds && matches_number m c.mechanism) || any (ends_at m ds (s / 2)) cs)) (same_back d.to c.hash)

-- the certificates to which a set leads, or the delegations of it that lead to one
pub ends_are : (m : Option ℕ) (s : ℕ) (cs : List Certificate) (ds : List Delegation) → any (ends_at m ds s) cs ≡ any_in s (leads_to_presented m cs) ds
unfolding any_in leads_to_presented
ends_are m s cs [] = ends_none m s cs
ends_are m s cs (d ∷ ds) = ends_first m s d ds cs ∙ ap (λ (b : Bool). eqb (s % 2) 1 && any (serves d.to m) cs || b) (ends_are m (s / 2) cs ds)

-- one of a set leads there, by the set of all that do
leads_in : (set into : ℕ) (h : Bytes) (ds : List Delegation) → into ≡ set_of (leads_to h) ds → not (eqb (bit_and set into) 0) ≡ any_in set (leads_to h) ds
leads_in set into h ds e = ap (λ (n : ℕ). not (eqb (bit_and set n) 0)) e ∙ sym (any_in_and (leads_to h) set ds)

or_swap : (a b : Bool) → (a || b) ≡ (b || a)
or_swap true true = refl
or_swap true false = refl
or_swap false true = refl
or_swap false false = refl

-- a delegation of the next level, by the table
pub goes_on_is : (p : ℕ) (k : Bytes) (rs : List Bytes) (set : ℕ) (links : List ℕ) → Links rs rs links → (i : ℕ) (r : Bool) → i < length rs
    → r ≡ (holds p (delegation_of (get_or rs i [])) && (not (eqb (bit_and set (get_or links i 0)) 0) || same (part 4 20 (get_or rs i [])) k))
    → r ≡ continues p k (delegations_of rs) set (delegation_of (get_or rs i []))
unfolding continues starts_at
goes_on_is p k rs set links f i r h e =
    let d = get_or rs i [] in
    e
    ∙ ap (λ (b : Bool). holds p (delegation_of d) && (b || same (part 4 20 d) k)) (leads_in set (get_or links i 0) (part 4 20 d) (delegations_of rs) (f i h))
    ∙ ap (λ (b : Bool). holds p (delegation_of d) && b) (or_swap (any_in set (leads_to (part 4 20 d)) (delegations_of rs)) (same (part 4 20 d) k))

-- a certificate at the end of a chain, by the table
pub end_is : (g : Bytes) (certs dels : List Bytes) (set : ℕ) (shown : List ℕ) → Links certs dels shown → (i : ℕ) (r : Bool) → i < length certs
    → r ≡ (not (eqb (bit_and set (get_or shown i 0)) 0) && matches_number (optional (flag 1 g) (number 24 2 g)) (number 24 2 (get_or certs i [])))
    → r ≡ ends_at (optional (flag 1 g) (number 24 2 g)) (delegations_of dels) set (certificate_of (get_or certs i []))
unfolding ends_at
end_is g certs dels set shown f i r h e =
    let c = get_or certs i [] in
    e ∙ ap (λ (b : Bool). b && matches_number (optional (flag 1 g) (number 24 2 g)) (number 24 2 c)) (leads_in set (get_or shown i 0) (part 4 20 c) (delegations_of dels) (f i h))
