-- A group is certified exactly where a certificate or a chain is there for it. Two wrong products that this rules out: one that takes a chain of five delegations, and
-- one that loses a chain because a record of it is repeated.
use Prim.Native.Nat.{ℕ, zero, suc, ◌≤◌}
use native.Mathlib.Omega.{arith}
use mathlib.Core.Path.{◌≡◌, refl, sym, ◌∙◌, subst}
use mathlib.Core.Logic.{◌↔◌, ◌⊎◌, inl, inr}
use mathlib.Core.List.{List, [], ◌∷◌}
use mathlib.Core.Option.{Option, none, some}
use mathlib.Core.Bool.{Bool, true, false, ◌&&◌, ◌||◌, false≢true}
use lib.ListN.{length}
use borrow.Author.Tests.{eqb-true, eq-eqb}
use Rattle.rules.specs.Sizes.{chain_max}
use Rattle.rules.specs.Basics.{Bytes, any, Every, same, bit, matches_number}
use Rattle.rules.specs.Acl.{Group}
use Rattle.rules.specs.Request.{Wanted, operation, working_blob, recovery_blob, Certificate, Delegation, Request}
use Rattle.rules.specs.Chain.{serves, holds, chained, delegated, vouched}
use Rattle.rules.specs.Grant.{certified}
use Rattle.rules.proofs.Laws.{never, and_left, and_right, and_both, or_cases, or_left, or_right, not_both, decided, every_at, any_here, same_eq, eq_same}
use Rattle.theorems.specs.Demands.{by_officer}
use Rattle.theorems.specs.Certification.{Member, Presents, Leads, ChainPresents, UseChained, Vouched, Certified, Uncertified}

-- Some element passes a test.
module _ {A : Type 0} (p : A → Bool) where
  pub any_member : (xs : List A) → any p xs ≡ true → (x : A) × Member x xs × (p x ≡ true)
  unfolding any
  any_member [] e = absurd (false≢true e)
  any_member (x ∷ xs) e = pick (or_cases (p x) (any p xs) e) (any_member xs)
    where
      pick : (p x ≡ true) ⊎ (any p xs ≡ true) → (any p xs ≡ true → (y : A) × Member y xs × (p y ≡ true)) → (y : A) × Member y (x ∷ xs) × (p y ≡ true)
      pick (inl d) f = (x, (0, refl), d)
      pick (inr d) f = let r = f d in (r.0, (suc r.1.0, r.1.1), r.2)

  pub member_any : (xs : List A) (x : A) → Member x xs → p x ≡ true → any p xs ≡ true
  member_any xs x m e = every_at (λ y. p y ≡ true → any p xs ≡ true) xs m.0 x (any_here p xs) m.1 e

-- A presented certificate.
mechanism_named_lem : (m : Option ℕ) (n : ℕ) → matches_number m n ≡ true → (k : ℕ) → m ≡ some k → n ≡ k
mechanism_named_lem none n e k d = absurd (never (cc))
mechanism_named_lem (some j) n e k d = let f : j ≡ k = cc in sym (eqb-true j n e) ∙ f

named_mechanism : (m : Option ℕ) (n : ℕ) → ((k : ℕ) → m ≡ some k → n ≡ k) → matches_number m n ≡ true
named_mechanism none n f = refl
named_mechanism (some j) n f = eq-eqb j n (sym (f j refl))

pub presents_is : (cs : List Certificate) (k : Bytes) (m : Option ℕ) → (any (serves k m) cs ≡ true) ↔ Presents cs k m
unfolding serves
presents_is cs k m = (to_words, of_words)
  where
    to_words : any (serves k m) cs ≡ true → Presents cs k m
    to_words e =
        let r = any_member (serves k m) cs e in
        let c = r.0 in
        record {
          certificate = c;
          presented = r.1;
          hash = same_eq c.hash k (and_left (same c.hash k) (matches_number m c.mechanism) r.2);
          mechanism = mechanism_named_lem m c.mechanism (and_right (same c.hash k) (matches_number m c.mechanism) r.2);
        }

    of_words : Presents cs k m → any (serves k m) cs ≡ true
    of_words s =
        let c = s.certificate in
        member_any (serves k m) cs c s.presented
        (and_both (same c.hash k) (matches_number m c.mechanism) (eq_same c.hash k s.hash) (named_mechanism m c.mechanism s.mechanism))

module _ (p : ℕ) (ds : List Delegation) where
  -- the links of a chain of at most n from a key to a key
  record Linked (n : ℕ) (k h : Bytes) : Type 0 where
    links : List Delegation
    any_links : 1 ≤ length links
    few_links : length links ≤ n
    each : Every (λ d. Member d ds × (bit p d.mask ≡ true)) links
    leads : Leads k links h

  module _ (cs : List Certificate) (m : Option ℕ) where
    -- the test of a chain's first link, where at most n may follow
    abbrev begins : ℕ → Bytes → Delegation → Bool
    begins n k d = holds p d && same d.from k && (any (serves d.to m) cs || chained n p d.to m cs ds)

    linked : (n : ℕ) (k : Bytes) → chained n p k m cs ds ≡ true → (h : Bytes) × Linked n k h × Presents cs h m
    unfolding chained holds
    linked zero k e = absurd (false≢true e)
    linked (suc n) k e =
        let r = any_member (begins n k) ds e in
        let d = r.0 in
        let a = and_left (bit p d.mask && same d.from k) _ r.2 in
        pick d (r.1, and_left (bit p d.mask) (same d.from k) a) (same_eq d.from k (and_right (bit p d.mask) (same d.from k) a))
        (or_cases (any (serves d.to m) cs) (chained n p d.to m cs ds) (and_right (bit p d.mask && same d.from k) _ r.2)) (linked n)
      where
        pick : (d : Delegation) → Member d ds × (bit p d.mask ≡ true) → d.from ≡ k → (any (serves d.to m) cs ≡ true) ⊎ (chained n p d.to m cs ds ≡ true)
            → ((k : Bytes) → chained n p k m cs ds ≡ true → (h : Bytes) × Linked n k h × Presents cs h m) → (h : Bytes) × Linked (suc n) k h × Presents cs h m
        pick d u b (inl x) f = (d.to, record { links = d ∷ []; any_links = omega arith; few_links = omega arith; each = (u, tt); leads = (b, refl) }, (presents_is cs d.to m).0 x)
        pick d u b (inr x) f =
            let y = f d.to x in
            let l = y.1 in
            let few = l.few_links in
            (y.0, record { links = d ∷ l.links; any_links = omega arith; few_links = omega arith; each = (u, l.each); leads = (b, l.leads) }, y.2)

    of_links : (n : ℕ) (k h : Bytes) (links : List Delegation) → 1 ≤ length links → length links ≤ n → Every (λ d. Member d ds × (bit p d.mask ≡ true)) links → Leads k links h → Presents cs h m
        → chained n p k m cs ds ≡ true
    unfolding chained holds
    of_links zero k h links a f u l s = absurd (omega arith)
    of_links (suc n) k h [] a f u l s = absurd (omega arith)
    of_links (suc n) k h (d ∷ []) a f u l s =
        member_any (begins n k) ds d u.0.0
        (and_both (bit p d.mask && same d.from k) _ (and_both (bit p d.mask) (same d.from k) u.0.1 (eq_same d.from k l.0))
        (or_left (any (serves d.to m) cs) _ ((presents_is cs d.to m).1 (subst (λ (x : Bytes). Presents cs x m) (sym l.1) s))))
    of_links (suc n) k h (d ∷ e ∷ links) a f u l s =
        member_any (begins n k) ds d u.0.0
        (and_both (bit p d.mask && same d.from k) _ (and_both (bit p d.mask) (same d.from k) u.0.1 (eq_same d.from k l.0))
        (or_right (any (serves d.to m) cs) _ (of_links n d.to h (e ∷ links) (omega arith) (omega arith) u.1 l.1 s)))

-- The definition holds exactly where there is a chain to a presented certificate.
pub chained_is : (p : ℕ) (ds : List Delegation) (k : Bytes) (cs : List Certificate) (m : Option ℕ) → (chained chain_max p k m cs ds ≡ true) ↔ ChainPresents p cs ds k m
chained_is p ds k cs m = (
  λ e. let r = linked p ds cs m chain_max k e in let c = r.1 in (r.0, record { links = c.links; any_links = c.any_links; few_links = c.few_links; each = c.each; leads = c.leads }, r.2),
  λ x. let c = x.1 in of_links p ds cs m chain_max k x.0 c.links c.any_links c.few_links c.each c.leads x.2,
)

-- A blob request is certified by no chain.
use_chained_is : (q : Request) (k : Bytes) (m : Option ℕ) → (delegated q.wanted k m q.certificates q.delegations ≡ true) ↔ UseChained q k m
unfolding delegated
use_chained_is q k m = pick q.wanted refl
  where
    pick : (w : Wanted) → q.wanted ≡ w → (delegated q.wanted k m q.certificates q.delegations ≡ true) ↔ UseChained q k m
    pick (operation p) e =
        let x = chained_is p q.delegations k q.certificates m in
        (λ h. (p, e, x.0 (rw e at h)), λ u. let n : u.0 ≡ p = let z : operation u.0 ≡ operation p = sym u.1 ∙ e in cc in rw e (x.1 (rw n at u.2)))
    pick (working_blob w f) e = (λ h. absurd (false≢true (rw e at h)), λ u. let z : working_blob w f ≡ operation u.0 = sym e ∙ u.1 in absurd (never (cc)))
    pick (recovery_blob w f) e = (λ h. absurd (false≢true (rw e at h)), λ u. let z : recovery_blob w f ≡ operation u.0 = sym e ∙ u.1 in absurd (never (cc)))

pub vouched_is : (q : Request) (k : Bytes) (m : Option ℕ) → (vouched q.wanted k m q.certificates q.delegations ≡ true) ↔ Vouched q k m
unfolding vouched
vouched_is q k m = (λ e. to_words (or_cases direct chain e), of_words)
  where
    direct : Bool
    direct = any (serves k m) q.certificates

    chain : Bool
    chain = delegated q.wanted k m q.certificates q.delegations

    to_words : (direct ≡ true) ⊎ (chain ≡ true) → Vouched q k m
    to_words (inl x) = inl ((presents_is q.certificates k m).0 x)
    to_words (inr x) = inr ((use_chained_is q k m).0 x)

    of_words : Vouched q k m → (direct || chain) ≡ true
    of_words (inl x) = or_left direct chain ((presents_is q.certificates k m).1 x)
    of_words (inr x) = or_right direct chain ((use_chained_is q k m).1 x)

-- A group is certified exactly when it has no certifier, or a presented certificate or a chain is there for it.
pub certified_is : (q : Request) (g : Group) → (certified q g ≡ true) ↔ Certified q g
certified_is q g = pick g.certifier refl
  where
    pick : (o : Option Bytes) → g.certifier ≡ o → (certified q g ≡ true) ↔ Certified q g
    pick none e = (λ h. inl e, λ c. rw e)
    pick (some k) e = (λ h. inr (k, e, (vouched_is q k g.mechanism).0 (rw e at h)), of_words)
      where
        of_words : Certified q g → certified q g ≡ true
        of_words (inl x) = absurd (never (cc))
        of_words (inr x) = rw x.1 ((vouched_is q x.0 g.mechanism).1 x.2)

-- A group is not certified exactly when it names a certifier for which there is neither.
pub uncertified_is : (q : Request) (g : Group) → (certified q g ≡ false) ↔ Uncertified q g
uncertified_is q g = (λ e. to_words e g.certifier refl, of_words)
  where
    to_words : certified q g ≡ false → (o : Option Bytes) → g.certifier ≡ o → Uncertified q g
    to_words e none d = absurd (not_both (certified q g) ((certified_is q g).1 (inl d)) e)
    to_words e (some k) d = (
      k,
      d,
      λ x. not_both (certified q g) ((certified_is q g).1 (inr (k, d, inl x))) e,
      λ x. not_both (certified q g) ((certified_is q g).1 (inr (k, d, inr x))) e,
    )

    never_vouched : (k : Bytes) → (Presents q.certificates k g.mechanism → ⊥) → (UseChained q k g.mechanism → ⊥) → Vouched q k g.mechanism → ⊥
    never_vouched k a b (inl x) = a x
    never_vouched k a b (inr x) = b x

    clash : Uncertified q g → Certified q g → ⊥
    clash u (inl x) = let y = u.1 in never (cc)
    clash u (inr x) =
        let s : some x.0 ≡ some u.0 = sym x.1 ∙ u.1 in
        let n : x.0 ≡ u.0 = cc in
        never_vouched u.0 u.2 u.3 (rw n at x.2)

    of_words : Uncertified q g → certified q g ≡ false
    of_words u = pick (decided (certified q g))
      where
        pick : (certified q g ≡ true) ⊎ (certified q g ≡ false) → certified q g ≡ false
        pick (inl x) = absurd (clash u ((certified_is q g).0 x))
        pick (inr x) = x

-- Demand 3's premise. A certificate that serves for a mechanism serves where none is named.
any_mechanism : (cs : List Certificate) (k : Bytes) (m : Option ℕ) → Presents cs k m → Presents cs k none
any_mechanism cs k m s =
    record { certificate = s.certificate; presented = s.presented; hash = s.hash; mechanism = λ n e. absurd (never (cc)) }

-- what certifies a group with a certifier vouches for that key, whatever the mechanism
pub certified_vouched : (q : Request) (g : Group) (k : Bytes) → g.certifier ≡ some k → Certified q g → Vouched q k none
certified_vouched q g k e (inl x) = absurd (never (cc))
certified_vouched q g k e (inr x) = pick x.2
  where
    n : x.0 ≡ k
    n = let s : some x.0 ≡ some k = sym x.1 ∙ e in cc

    pick : Vouched q x.0 g.mechanism → Vouched q k none
    pick (inl y) = inl (rw n at (any_mechanism q.certificates x.0 g.mechanism y))
    pick (inr y) =
        let c = y.2.1 in
        inr (y.0, y.1, (y.2.0, rw n at c, any_mechanism q.certificates y.2.0 g.mechanism y.2.2))

-- A request is by the officer's key exactly when there is such a key, and a presented certificate carries its hash or, where a use is asked for, a
-- chain leads from it to a presented certificate.
pub officer_is : (officer : Option Bytes) (q : Request) → (by_officer officer q ≡ true) ↔ ((k : Bytes) × (officer ≡ some k) × Vouched q k none)
unfolding by_officer
officer_is none q = (λ e. absurd (false≢true e), λ x. let y = x.1 in absurd (never (cc)))
officer_is (some k) q =
    let v = vouched_is q k none in
    (λ e. (k, refl, v.0 e), λ x. let y = x.1 in let n : k ≡ x.0 = cc in v.1 (rw (← n) at x.2))
