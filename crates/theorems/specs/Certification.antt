-- What certifies a group, in words: document 01, "When a group grants"; document 02, request f. The gate's definitions search for it
-- (crate rules, specs/Chain.antt); that they find it exactly where it is: proofs/Certification.antt.
use Rattle.std.specs.Prelude.{ℕ, ◌≤◌, List, [], ◌∷◌, ◌≡◌, ◌⊎◌, true, length}
use Rattle.std.proofs.Math.Option.{Option, none, some}
use Rattle.std.proofs.Math.ListN.{get_elem?}
use Rattle.rules.specs.Sizes.{chain_max}
use Rattle.rules.specs.Basics.{Bytes, Every, bit}
use Rattle.rules.specs.Acl.{Group}
use Rattle.rules.specs.Request.{operation, Certificate, Delegation, Request}

-- something stands in a list
abbrev pub Member : {A : Type 0} → A → List A → Type 0
Member x xs = (place : ℕ) × (get_elem? xs place ≡ some x)

-- "a presented certificate has that hash and, where named, that mechanism"
pub record Presents (cs : List Certificate) (k : Bytes) (m : Option ℕ) : Type 0 where
  pub certificate : Certificate
  pub presented : Member certificate cs
  pub hash : certificate.hash ≡ k
  pub mechanism : (n : ℕ) → m ≡ some n → certificate.mechanism ≡ n

-- delegations that lead from a key to a key: each starts where the one before it leads
abbrev pub Leads : Bytes → List Delegation → Bytes → Type 0
Leads k [] h = k ≡ h
Leads k (d ∷ ds) h = (d.from ≡ k) × Leads d.to ds h

-- "a chain of at most four delegations leads from the group's certifier to a presented key, each mask holding the requested bit"
pub record Chain (p : ℕ) (ds : List Delegation) (k h : Bytes) : Type 0 where
  pub links : List Delegation
  pub any_links : 1 ≤ length links
  pub few_links : length links ≤ chain_max
  pub each : Every (λ d. Member d ds × (bit p d.mask ≡ true)) links
  pub leads : Leads k links h

-- a chain to a presented certificate: "A group's named mechanism then applies to the presented certificate."
abbrev pub ChainPresents : ℕ → List Certificate → List Delegation → Bytes → Option ℕ → Type 0
ChainPresents p cs ds k m = (h : Bytes) × Chain p ds k h × Presents cs h m

-- "A use request .. or a chain"; "With either blob request they are read but certify nothing."
abbrev pub UseChained : Request → Bytes → Option ℕ → Type 0
UseChained q k m = (p : ℕ) × (q.wanted ≡ operation p) × ChainPresents p q.certificates q.delegations k m

-- "a presented certificate satisfies it, or a chain": for a key, and a mechanism where one is named
abbrev pub Vouched : Request → Bytes → Option ℕ → Type 0
Vouched q k m = Presents q.certificates k m ⊎ UseChained q k m

-- "It is certified if it has no certifier, or .."
abbrev pub Certified : Request → Group → Type 0
Certified q g = (g.certifier ≡ none) ⊎ ((k : Bytes) × (g.certifier ≡ some k) × Vouched q k g.mechanism)

-- "names a certifier and none has such a certificate or chain"
abbrev pub Uncertified : Request → Group → Type 0
Uncertified q g =
    (k : Bytes) × (g.certifier ≡ some k) × (Presents q.certificates k g.mechanism → ⊥) × (UseChained q k g.mechanism → ⊥)
