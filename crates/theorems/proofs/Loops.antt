-- "loops and repeated records do no harm": document 02, request f. What is certified depends on which certificates and delegations are presented, not
-- on their order or on how often they stand there; more of them take nothing away; and a chain with a loop gives nothing that a certificate or a
-- chain without one does not give. Two wrong products that this rules out: a search that stops at the first delegation from a key, and one that loses
-- its way in a loop.
use Prim.Native.Nat.{ℕ, suc, ◌≤◌}
use native.Mathlib.Omega.{arith}
use mathlib.Core.Path.{◌≡◌, refl, sym, ◌∙◌, ap₂, subst}
use mathlib.Core.Logic.{◌⊎◌, inl, inr}
use mathlib.Core.List.{List, [], ◌∷◌}
use mathlib.Core.Option.{Option, none}
use mathlib.Core.Bool.{Bool, true, false, ◌&&◌}
use lib.ListN.{length}
use Rattle.std.specs.Prelude.{if◌then◌else◌}
use Rattle.rules.specs.Basics.{Bytes, Every, same, bit}
use Rattle.rules.specs.Acl.{Group, acl_of}
use Rattle.rules.specs.Request.{Certificate, Delegation, Request, request_of, hints_of}
use Rattle.rules.specs.Ledger.{Ledger}
use Rattle.rules.specs.Grant.{group_admits, certified}
use Rattle.rules.specs.Gate.{Outcome, Lowest, lowest, Judgement, granted, denied, early, or_else, too_early, admits_certified, grants, judge, permitted, request_files, request, narrow_files, narrowed, narrow, expand_files, expanded, expand}
use Rattle.rules.proofs.Laws.{not_both, decided, every_map, same_eq, eq_same}
use Rattle.rules.proofs.Judging.{ungranted}
use Rattle.theorems.specs.Certification.{Member, Presents, Leads, Chain, ChainPresents, Vouched, Certified}
use Rattle.theorems.proofs.Lists.{both_ways}
use Rattle.theorems.proofs.Certification.{certified_is}
use Rattle.theorems.proofs.Permit.{called}
use Rattle.theorems.specs.Presented.{PresentsMore, PresentsSame, NotTo, Straight}

presents_more : (q r : Request) (h : PresentsMore q r) (k : Bytes) (m : Option ℕ) → Presents q.certificates k m → Presents r.certificates k m
presents_more q r h k m s =
    record { certificate = s.certificate; presented = h.certificates s.certificate s.presented; hash = s.hash; mechanism = s.mechanism }

chain_more : (q r : Request) (h : PresentsMore q r) (p : ℕ) (k e : Bytes) → Chain p q.delegations k e → Chain p r.delegations k e
chain_more q r h p k e c =
    record {
      links = c.links;
      any_links = c.any_links;
      few_links = c.few_links;
      each = every_map _ _ c.links (λ d u. (h.delegations d u.0, u.1)) c.each;
      leads = c.leads;
    }

vouched_more : (q r : Request) (h : PresentsMore q r) (k : Bytes) (m : Option ℕ) → Vouched q k m → Vouched r k m
vouched_more q r h k m (inl x) = inl (presents_more q r h k m x)
vouched_more q r h k m (inr x) =
    inr (x.0, sym h.same_wanted ∙ x.1, (x.2.0, chain_more q r h x.0 k x.2.0 x.2.1, presents_more q r h x.2.0 m x.2.2))

-- What is presented besides takes no certification away.
pub certified_more : (q r : Request) (h : PresentsMore q r) (g : Group) → certified q g ≡ true → certified r g ≡ true
certified_more q r h g e = (certified_is r g).1 (pick ((certified_is q g).0 e))
  where
    pick : Certified q g → Certified r g
    pick (inl x) = inl x
    pick (inr x) = inr (x.0, x.1, vouched_more q r h x.0 g.mechanism x.2)

pub certified_same : (q r : Request) (g : Group) → PresentsSame q r → certified q g ≡ certified r g
certified_same q r g h = both_ways (certified q g) (certified r g) (certified_more q r h.0 g) (certified_more r q h.1 g)

lowest_same : (s t : ℕ → Group → Bool) → ((place : ℕ) (g : Group) → s place g ≡ t place g) → (place : ℕ) (gs : List Group) → lowest s place gs ≡ lowest t place gs
unfolding lowest
lowest_same s t f place [] = refl
lowest_same s t f place (g ∷ gs) = rw (f place g, lowest_same s t f (suc place) gs)

module _ (l : Ledger) (km0 : Bytes) (q r : Request) (h : PresentsSame q r) where
  admits_same : (g : Group) → group_admits km0 q g ≡ group_admits km0 r g
  admits_same g = rw h.0.same_wanted

  both_same_lem : (place : ℕ) (g : Group) → admits_certified km0 q g ≡ admits_certified km0 r g
  both_same_lem place g = ap₂ ◌&&◌ (admits_same g) (certified_same q r g h)

  grants_same : (place : ℕ) (g : Group) → grants l km0 q place g ≡ grants l km0 r place g
  grants_same place g = ap₂ ◌&&◌ (both_same_lem place g) (rw h.0.same_time)

  -- The judgement is the same.
  pub judge_same : (gs : List Group) → judge l km0 gs q ≡ judge l km0 gs r
  unfolding judge
  judge_same gs =
      let e : too_early l q ≡ too_early l r = rw h.0.same_time in
      let a = lowest_same (λ place. group_admits km0 q) (λ place. group_admits km0 r) (λ place. admits_same) 0 gs in
      let b = lowest_same (λ place. admits_certified km0 q) (λ place. admits_certified km0 r) both_same_lem 0 gs in
      let c = lowest_same (grants l km0 q) (grants l km0 r) grants_same 0 gs in
      ap₂ (λ (t : Bool) (j : Judgement). if t then denied early else j) e
      (ap₂ (λ (r : Lowest) (j : Judgement). or_else r granted j) c (ap₂ ungranted b a))

  called_same : (f g : Option ℕ) (gs : List Group) (on_permit : ℕ → Ledger → Outcome) → f ≡ g → called f l km0 gs q on_permit ≡ called g l km0 gs r on_permit
  called_same f g gs on_permit e = rw (e, judge_same gs, h.0.same_time)

-- Two request files without fault that present the same come to the same, and so for the replacements.
pub request_same : (l : Ledger) (km0 acl req req' : Bytes) (h : PresentsSame (request_of req) (request_of req')) → request_files km0 acl req ≡ none → request_files km0 acl req' ≡ none → request l km0 acl req ≡ request l km0 acl req'
unfolding request
request_same l km0 acl req req' h e d =
    called_same l km0 (request_of req) (request_of req') h (request_files km0 acl req) (request_files km0 acl req') (acl_of acl) permitted (e ∙ sym d)

pub narrow_same : (l : Ledger) (km0 acl req req' : Bytes) (h : PresentsSame (request_of req) (request_of req')) (new hints : Bytes) → narrow_files km0 acl req new hints ≡ none → narrow_files km0 acl req' new hints ≡ none
    → narrow l km0 acl req new hints ≡ narrow l km0 acl req' new hints
unfolding narrow
narrow_same l km0 acl req req' h new hints e d =
    called_same l km0 (request_of req) (request_of req') h (narrow_files km0 acl req new hints) (narrow_files km0 acl req' new hints) (acl_of acl)
    (narrowed l (acl_of acl) (acl_of new) (hints_of hints)) (e ∙ sym d)

pub expand_same : (l : Ledger) (km0 acl req req' : Bytes) (h : PresentsSame (request_of req) (request_of req')) (new : Bytes) → expand_files km0 acl req new ≡ none → expand_files km0 acl req' new ≡ none → expand l km0 acl req new ≡ expand l km0 acl req' new
unfolding expand
expand_same l km0 acl req req' h new e d =
    called_same l km0 (request_of req) (request_of req') h (expand_files km0 acl req new) (expand_files km0 acl req' new) (acl_of acl) expanded (e ∙ sym d)

module _ (P : Delegation → Type 0) (h : Bytes) where
  -- straight links, no more than n of them, from a key
  record Line (n : ℕ) (k : Bytes) : Type 0 where
    links : List Delegation
    few : length links ≤ n
    each : Every P links
    leads : Leads k links h
    straight : Straight k links

  -- the same from another name of the key, and with room for one more
  moved : (n : ℕ) (a k : Bytes) → a ≡ k → Line n a → Line (suc n) k
  moved n a k e x =
      let y : Line n k = subst (Line n) e x in
      record { links = y.links; few = omega (arith, y.few); each = y.each; leads = y.leads; straight = y.straight }

  -- of straight links, those after the one that leads to a key
  cut : (k a : Bytes) (links : List Delegation) → Every P links → Leads a links h → Straight a links → Every (NotTo k) links ⊎ Line (length links) k
  cut k a [] u l s = inl tt
  cut k a (d ∷ links) u l s = pick (decided (same d.to k)) (cut k d.to links u.1 l.1 s.1)
    where
      pick : (same d.to k ≡ true) ⊎ (same d.to k ≡ false) → Every (NotTo k) links ⊎ Line (length links) k → Every (NotTo k) (d ∷ links) ⊎ Line (length (d ∷ links)) k
      pick (inl e) x =
          inr (moved (length links) d.to k (same_eq d.to k e)
          (record { links = links; few = omega arith; each = u.1; leads = l.1; straight = s.1 }))
      pick (inr e) (inl x) = inl (λ q. not_both (same d.to k) (eq_same d.to k q) e, x)
      pick (inr e) (inr x) = inr (moved (length links) k k refl x)

  straighten : (k : Bytes) (links : List Delegation) → Every P links → Leads k links h → Line (length links) k
  straighten k [] u l = record { links = []; few = omega arith; each = tt; leads = l; straight = tt }
  straighten k (d ∷ links) u l = pick (decided (same d.to k)) (straighten d.to links u.1 l.1)
    where
      pick : (same d.to k ≡ true) ⊎ (same d.to k ≡ false) → Line (length links) d.to → Line (length (d ∷ links)) k
      pick (inl e) x = moved (length links) d.to k (same_eq d.to k e) x
      pick (inr e) x = choose (cut k d.to x.links x.each x.leads x.straight)
        where
          choose : Every (NotTo k) x.links ⊎ Line (length x.links) k → Line (length (d ∷ links)) k
          choose (inl y) =
              record {
                links = d ∷ x.links;
                few = omega (arith, x.few);
                each = (u.0, x.each);
                leads = (l.0, x.leads);
                straight = ((λ q. not_both (same d.to k) (eq_same d.to k q) e, y), x.straight);
              }
          choose (inr y) = record { links = y.links; few = omega (arith, y.few, x.few); each = y.each; leads = y.leads; straight = y.straight }

-- What a chain gives, a certificate of the key itself gives, or a chain that comes to no key twice.
pub chain_straight : (p : ℕ) (cs : List Certificate) (ds : List Delegation) (k : Bytes) (m : Option ℕ) → ChainPresents p cs ds k m
    → Presents cs k m ⊎ ((h : Bytes) × (c : Chain p ds k h) × Straight k c.links × Presents cs h m)
chain_straight p cs ds k m x =
    let c = x.1 in
    let y = straighten (λ d. Member d ds × (bit p d.mask ≡ true)) x.0 k c.links c.each c.leads in
    pick y.links y.few y.each y.leads y.straight
  where
    pick : (links : List Delegation) → length links ≤ length x.1.links → Every (λ d. Member d ds × (bit p d.mask ≡ true)) links → Leads k links x.0 → Straight k links
        → Presents cs k m ⊎ ((h : Bytes) × (c : Chain p ds k h) × Straight k c.links × Presents cs h m)
    pick [] f u l s = inl (subst (λ (e : Bytes). Presents cs e m) (sym l) x.2)
    pick (d ∷ links) f u l s =
        inr (x.0, record { links = d ∷ links; any_links = omega arith; few_links = omega (arith, f, x.1.few_links); each = u; leads = l }, s, x.2)
