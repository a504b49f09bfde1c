-- The words of request n (document 02): the ACLs that it speaks of, and the certificates that serve an ACL's groups.
use Rattle.std.specs.Prelude.{ℕ, ◌≤◌, ◌<◌, ◌^◌, ◌≡◌, ◌⊎◌, ◌≢◌, List, [], ◌∷◌, Bool, true, false, ◌&&◌, ◌||◌, length, if◌then◌else◌}
use Rattle.std.proofs.Math.Option.{Option, none, some}
use Rattle.rules.specs.Sizes.{hash_bytes, certificates_max}
use Rattle.rules.specs.Numbers.{by_cardset}
use Rattle.rules.specs.Basics.{Bytes, Every, any, present, records}
use Rattle.rules.specs.Acl.{BlobRule, BlobfileRule, Action, permissions, make_blob, make_archive, Group, acl_of}
use Rattle.rules.specs.Request.{WorkingBlob, working_blob, Certificate, request_of}
use Rattle.rules.specs.Ledger.{Ledger}
use Rattle.rules.specs.Chain.{serves}
use Rattle.rules.specs.Grant.{null_key}
use Rattle.rules.specs.Gate.{permit, request}
use Rattle.rules.specs.Bundle.{field}
use Rattle.rules.specs.Desk.{Grade, approach2, accepted, desk, blob_protection}
use Rattle.rules.specs.Written.{Octets, blob_request_bytes, certificate_bytes}
use Rattle.rules.specs.Runs.{with_row}

-- a predicate of an action and its blobfile, if it is a MakeBlob action
abbrev pub IfBlob : (BlobRule → Option BlobfileRule → Type 0) → Action → Type 0
IfBlob P (permissions bits) = Unit {0}
IfBlob P (make_blob r f) = P r f
IfBlob P (make_archive a f) = Unit {0}

-- "every MakeBlob action" of an ACL
abbrev pub EveryBlob : (BlobRule → Option BlobfileRule → Type 0) → List Group → Type 0
EveryBlob P gs = Every (λ g. Every (IfBlob P) g.actions) gs

-- "AllowKmOnly together with kthash or ktparams"
abbrev pub mixed : BlobRule → Bool
mixed r = r.km_only && (present r.kthash || present r.ktparams)

-- "at the mechanisms named"; where none is named any serves, here 1
abbrev pub named_or1 : Option ℕ → ℕ
named_or1 none = 1
named_or1 (some m) = m

-- "9 presented certificate: 4-23 key hash, 24-25 mechanism, not zero": what a record can say
abbrev pub Presentable : Certificate → Type 0
Presentable c = (length c.hash ≡ hash_bytes) × (c.mechanism ≢ 0)

-- a group's certifier is presented, at the mechanism named; a group without one needs none
abbrev pub served_by : Option Bytes → Option ℕ → List Certificate → Bool
served_by none m cs = true
served_by (some k) m cs = any (serves k m) cs

-- certificates with one more for a certifier, unless they serve it
abbrev pub presented_to : Option Bytes → Option ℕ → List Certificate → List Certificate
presented_to none m cs = cs
presented_to (some k) m cs = if any (serves k m) cs then cs else record { hash = k; mechanism = named_or1 m } ∷ cs

-- "all certifiers presented at the mechanisms named"
unfoldable pub certificates_for : List Group → List Certificate
certificates_for [] = []
certificates_for (g ∷ gs) = presented_to g.certifier g.mechanism (certificates_for gs)

-- "Take ..", "Let ..": the premises of request n, a field for each phrase. The load is at one time, the request at another.
pub record GradePremises (bundle acl : Bytes) (verdict : Grade) (km0 : Bytes) (loaded time : ℕ) (certificates : List Certificate) : Type 0 where
  -- "an ACL without limits"
  pub unlimited : Every (λ g. g.limits ≡ []) (acl_of acl)
  -- "accepted under approach 2"
  pub accepts : desk bundle acl ≡ accepted (approach2 verdict)
  -- "with protection 1, 2 or 3"
  pub graded : verdict.protection ≤ by_cardset
  -- "in which no action has AllowKmOnly together with kthash or ktparams"
  pub unmixed : EveryBlob (λ r f. mixed r ≡ false) (acl_of acl)
  -- "and none has blobfile" (asked of MakeBlob actions alone)
  pub returned : EveryBlob (λ r f. f ≡ none) (acl_of acl)
  -- "Let hkm be other than the null key"
  pub not_null : field 6 (records bundle) ≢ some null_key
  -- "let every MakeBlob action have AllowNonKm0 or hkm be KM0"
  pub home : EveryBlob (λ r f. (r.non_km0 ≡ true) ⊎ (field 6 (records bundle) ≡ some km0)) (acl_of acl)
  -- a KM0 is a hash
  pub km0_sized : length km0 ≡ hash_bytes
  -- "Just after a load"
  pub after_load : loaded ≤ time
  -- "at most 32 such certificates"
  pub few : length certificates ≤ certificates_max

-- "with all certifiers presented at the mechanisms named", by certificates that records can hold
pub record AllPresented (acl : Bytes) (certificates : List Certificate) : Type 0 where
  pub each : Every Presentable certificates
  pub serving : Every (λ g. served_by g.certifier g.mechanism certificates ≡ true) (acl_of acl)

-- the file of a blob request with its certificates: "A request record comes first, then at most 32 certificates."
abbrev pub blob_request_file : WorkingBlob → ℕ → List Certificate → Bytes
blob_request_file w time cs = with_row (blob_request_bytes w time) cs

-- "some blob request of exactly that protection is permitted", with given certificates: a blob, the place of the group that permits it, and what its
-- file asks for and presents. The file is of bytes, if the ACL and the certificates are and the time has 64 bits.
pub record BlobPermitted (bundle acl km0 : Bytes) (ledger : Ledger) (time protection : ℕ) (certificates : List Certificate) : Type 0 where
  pub blob : WorkingBlob
  pub place : ℕ
  pub protects : blob_protection (records bundle) blob ≡ protection
  pub reads : request_of (blob_request_file blob time certificates) ≡ record { wanted = working_blob blob none; time = time; certificates = certificates; delegations = [] }
  pub permits : (request ledger km0 acl (blob_request_file blob time certificates)).answer ≡ permit place
  pub is_bytes : Octets acl → time < 256 ^ 8 → Every (λ c. Octets (certificate_bytes c)) certificates → Octets (blob_request_file blob time certificates)
