-- What is permitted, and why a call is refused, in words: the theorems are in proofs/Permit.antt, proofs/Demand2.antt and proofs/Uncertified.antt.
use Rattle.std.specs.Prelude.{◌+◌, ◌<◌, ℕ, Bool, false, true, List, ◌↔◌, ◌≡◌}
use Rattle.std.proofs.Math.ListN.{get_elem?}
use Rattle.std.proofs.Math.Option.{Option, none, some}
use Rattle.rules.specs.Acl.{Group}
use Rattle.rules.specs.Basics.{Bytes, any}
use Rattle.rules.specs.Gate.{Outcome, admits_certified, grants, permit, refuse, too_early}
use Rattle.rules.specs.Grant.{group_admits, unspent}
use Rattle.rules.specs.Ledger.{Ledger}
use Rattle.rules.specs.Numbers.{clock_back, not_admitted, not_certified, spent}
use Rattle.rules.specs.Request.{Request}
use Rattle.theorems.specs.Certification.{Certified, Uncertified}
use Rattle.theorems.specs.Demands.{one_of}
use Rattle.theorems.specs.Numbers.{file_numbers}

-- Of groups numbered from `place`, the i-th is g, passes a test, and no group before it does.
pub record IsLowest (test : ℕ → Group → Bool) (place : ℕ) (gs : List Group) (i : ℕ) (g : Group) : Type 0 where
  pub there : get_elem? gs i ≡ some g
  pub passes : test (place + i) g ≡ true
  pub none_before : (j : ℕ) (h : Group) → j < i → get_elem? gs j ≡ some h → test (place + j) h ≡ false

-- The permit rule, over the fault of a call's files, the ledger, KM0, the ACL's groups and the request: no fault, a time that does not go back,
-- and the lowest group that grants.
pub record Permitted (fault : Option ℕ) (l : Ledger) (km0 : Bytes) (gs : List Group) (q : Request) (k : ℕ) (g : Group) : Type 0 where
  pub files : fault ≡ none
  pub in_time : too_early l q ≡ false
  pub lowest_group : IsLowest (grants l km0 q) 0 gs k g

-- a call that is permitted
abbrev pub IsPermitted : Outcome → Type 0
IsPermitted o = (k : ℕ) × (o.answer ≡ permit k)

-- Some group of an ACL, at its place, admits, is certified (by a presented certificate or a chain) and is unspent.
pub record Grants (l : Ledger) (km0 : Bytes) (gs : List Group) (q : Request) (place : ℕ) (g : Group) : Type 0 where
  pub there : get_elem? gs place ≡ some g
  pub admitting : group_admits km0 q g ≡ true
  pub certifying : Certified q g
  pub left : unspent l place q g ≡ true

-- some group grants the request
abbrev pub SomeGroup : Ledger → Bytes → List Group → Request → Type 0
SomeGroup l km0 gs q = (place : ℕ) × (g : Group) × Grants l km0 gs q place g

-- Files with no fault, a time that does not go back, and such a group.
pub record Granting (fault : Option ℕ) (l : Ledger) (km0 : Bytes) (gs : List Group) (q : Request) : Type 0 where
  pub files : fault ≡ none
  pub in_time : too_early l q ≡ false
  pub grantor : SomeGroup l km0 gs q

-- Files without fault and a time that does not go back: only then are the groups judged.
pub record IsJudged (fault : Option ℕ) (l : Ledger) (q : Request) : Type 0 where
  pub files : fault ≡ none
  pub in_time : too_early l q ≡ false

-- the lowest group that passes a test is the one at place k
abbrev pub LowestAt : List Group → (Group → Bool) → ℕ → Type 0
LowestAt gs test k = (g : Group) × IsLowest (λ place. test) 0 gs k g

-- Document 01's table of refusal numbers, of a request and of both replacements: each number is given exactly in its case. "Refusal 6 shall carry the lowest
-- group that admits; refusal 7 the lowest that admits and is certified."; "Refusal 5 stays bare."
pub record RefusedExactly (fault : Option ℕ) (l : Ledger) (km0 : Bytes) (gs : List Group) (q : Request) (o : Outcome) : Type 0 where
  -- 1, 2, 3 and 12: the first fault of the files
  pub by_files : (n : ℕ) → one_of file_numbers n ≡ true → (o.answer ≡ refuse n none) ↔ (fault ≡ some n)
  -- 4: "time before load time or last time"
  pub by_time : (o.answer ≡ refuse clock_back none) ↔ ((fault ≡ none) × (too_early l q ≡ true))
  -- 5: "no group admits"
  pub none_admits : (o.answer ≡ refuse not_admitted none) ↔ (IsJudged fault l q × (any (group_admits km0 q) gs ≡ false))
  -- 6: "none admitting is certified"
  pub none_certified : (k : ℕ) → (o.answer ≡ refuse not_certified (some k)) ↔ (IsJudged fault l q × LowestAt gs (group_admits km0 q) k × (any (admits_certified km0 q) gs ≡ false))
  -- 7: "none admitting and certified is unspent"
  pub none_unspent : (k : ℕ) → (o.answer ≡ refuse spent (some k)) ↔ (IsJudged fault l q × LowestAt gs (admits_certified km0 q) k × (SomeGroup l km0 gs q → ⊥))

-- a refusal with a number, whichever group it carries
abbrev pub RefusedBy : ℕ → Outcome → Type 0
RefusedBy n o = (near : Option ℕ) × (o.answer ≡ refuse n near)

-- "every admitting group names a certifier and none has such a certificate or chain"
abbrev pub AllUncertified : Bytes → List Group → Request → Type 0
AllUncertified km0 gs q = (place : ℕ) (g : Group) → get_elem? gs place ≡ some g → group_admits km0 q g ≡ true → Uncertified q g

-- "An admitted use is uncertified exactly when every admitting group names a certifier and none has such a certificate or chain": of a call whose files
-- have no fault and whose time does not go back. (So are a blob request, which no chain certifies, and a replacement, which is a use.)
abbrev pub UncertifiedExactly : Option ℕ → Ledger → Bytes → List Group → Request → Outcome → Type 0
UncertifiedExactly fault l km0 gs q o =
    fault ≡ none → too_early l q ≡ false → any (group_admits km0 q) gs ≡ true → RefusedBy not_certified o ↔ AllUncertified km0 gs q
