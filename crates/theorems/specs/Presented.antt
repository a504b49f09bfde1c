-- What a request file presents; requests that present the same, and chains without a loop (document 02, request f, "loops and repeated records do no
-- harm"): the theorems are in proofs/RequestFile.antt and proofs/Loops.antt.
use Rattle.std.specs.Prelude.{◌≤◌, length, false, true, List, [], ◌++◌, ◌∷◌, map, ◌≡◌}
use Rattle.std.proofs.Math.Option.{none, some}
use Rattle.rules.specs.Acl.{announces_blobfile}
use Rattle.rules.specs.Basics.{Bytes, Every}
use Rattle.rules.specs.Request.{Delegation, Request, blobfile_next, blobfile_of, certificate_of, certificate_record, certificates_of, delegation_of, delegation_record, delegations_of, blobfile_request_record, presented_after}
use Rattle.rules.specs.Sizes.{certificates_max, delegations_max}
use Rattle.theorems.specs.Certification.{Member}

-- The records after the first, where they have no fault: certificates, then delegations, each well formed, not too many of either.
pub record Presenting (rs : List Bytes) : Type 0 where
  pub certs : List Bytes
  pub dels : List Bytes
  pub parted : rs ≡ certs ++ dels
  pub certs_good : Every (λ r. certificate_record r ≡ true) certs
  pub dels_good : Every (λ r. delegation_record r ≡ true) dels
  pub certs_few : length certs ≤ certificates_max
  pub dels_few : length dels ≤ delegations_max

-- What follows a request record: where it announces one, a well-formed record of kind 15, which says where the blob is stored; then what is presented.
pub record Following (r : Bytes) (rs : List Bytes) : Type 0 where
  pub stored : announces_blobfile r ≡ true → (file : Bytes) × (blobfile_request_record file ≡ true) × (rs ≡ file ∷ presented_after r rs) × (blobfile_next rs ≡ some (blobfile_of file))
  pub returned : announces_blobfile r ≡ false → (rs ≡ presented_after r rs) × (blobfile_next rs ≡ none)
  pub presenting : Presenting (presented_after r rs)
  pub certificates : certificates_of rs ≡ map certificate_of presenting.certs
  pub delegations : delegations_of rs ≡ map delegation_of presenting.dels

-- all of one list stand in another
abbrev pub Among : {A : Type 0} → List A → List A → Type 0
Among {A} xs ys = (x : A) → Member x xs → Member x ys

-- Two requests for the same at the same time; the other presents all that the one does.
pub record PresentsMore (q r : Request) : Type 0 where
  pub same_wanted : q.wanted ≡ r.wanted
  pub same_time : q.time ≡ r.time
  pub certificates : Among q.certificates r.certificates
  pub delegations : Among q.delegations r.delegations

-- Two requests that present the same, in whatever order and however often.
abbrev pub PresentsSame : Request → Request → Type 0
PresentsSame q r = PresentsMore q r × PresentsMore r q

-- Loops. A chain is straight if no key is come to twice.
abbrev pub NotTo : Bytes → Delegation → Type 0
NotTo k d = d.to ≡ k → ⊥

-- a chain from a key on that comes back to no key
abbrev pub Straight : Bytes → List Delegation → Type 0
Straight k [] = Unit {0}
Straight k (d ∷ links) = Every (NotTo k) (d ∷ links) × Straight d.to links
