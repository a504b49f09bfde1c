-- Demand 3 speaks of something: a bundle that the desk accepts under approach 2, and a sequence of calls without the officer's certificate in which a
-- token blob, two recovery blobs, a use by a chain of delegations, a narrowing and two uses are permitted, a load and a clear are done, and others are refused
-- with 5, 6, 8, 7 and 4. Two wrong products that this rules out: a desk that accepts nothing, and a gate that permits no blob.
use native.Mathlib.Omega.{arith}
use mathlib.Core.Path.{◌≡◌, refl, ap}
use mathlib.Core.Logic.{inl, inr}
use mathlib.Core.List.{List, [], ◌∷◌, ◌++◌, map}
use mathlib.Core.Option.{Option, none, some}
use mathlib.Core.Bool.{true, false, false≢true}
use lib.ListN.{replicate}
use Rattle.rules.specs.Basics.{Bytes, records, both_same}
use Rattle.rules.specs.Acl.{acl_of}
use Rattle.rules.specs.Request.{WorkingBlob}
use Rattle.rules.specs.Ledger.{fresh_ledger, loaded_at}
use Rattle.rules.specs.Grant.{null_key}
use Rattle.rules.specs.Gate.{done, permit, refuse, request}
use Rattle.rules.specs.Bundle.{policy_of}
use Rattle.rules.specs.Desk.{Grade, approach2, accepted, class_of, policy_admits, desk, blob_protection}
use Rattle.rules.proofs.Computing.{computing}
use Rattle.rules.proofs.Samples.{rec, timed, hash, open_group, limited, sign, decrypt, certificate, sign_link, decrypt_link, reduce, enlarge, expandable, hint, hint_to, bundle, blob, cardset, softcard, archive, delegation, stored_archive, on_devices, recovery, stored_recovery}
use Rattle.theorems.specs.Demands.{Call, requesting, loading, clearing, narrowing, expanding, State, outcome, after, replies, by_officer, officer_signed, wanted_in, Allowed, EveryPermit}
use Rattle.theorems.specs.Account.{AllPutDown, is_expansion}
use Rattle.theorems.specs.Exhibit.{certificates_for, blob_request_file, BlobPermitted}
use Rattle.theorems.proofs.Demand3.{demand_3}
use Rattle.theorems.proofs.Uses.{no_expansion}
use Rattle.theorems.proofs.Cautious.{grade_reached_exhibited}

-- at most 6 uses per load; Sign and ReduceACL; a cardset of 1 of 2 under hkm; a recovery action, and one with blobfile; then Decrypt, by key 9 at
-- mechanism 1
abbrev pub useful : Bytes
useful =
    open_group ++ rec (2 ∷ 0 ∷ 0 ∷ 0 ∷ 1 ∷ 0 ∷ 0 ∷ 0 ∷ 0 ∷ 0 ∷ 0 ∷ 6 ∷ []) ++ rec (3 ∷ 0 ∷ 0 ∷ 0 ∷ 0 ∷ 0x14 ∷ []) ++ blob 30 (hash 20) cardset ++ archive
    ++ stored_archive ++ on_devices 5
    ++ rec (1 ∷ 0 ∷ 0 ∷ 3 ∷ [] ++ hash 9 ++ (0 ∷ 1 ∷ [])) ++ rec (3 ∷ 0 ∷ 0 ∷ 0 ∷ 2 ∷ 0 ∷ [])

-- at most 5 uses per load; Sign
abbrev pub smaller : Bytes
smaller = limited 1 5

abbrev pub token_blob : Bytes
token_blob = timed (7 ∷ 0 ∷ 0 ∷ 1 ∷ [] ++ hash 6 ++ hash 20 ++ cardset) 5

-- Every kind of call. The expansion is refused: a permitted one is a use of ExpandACL, which is forbidden, so that only the officer's group may have it.
abbrev pub calls : List Call
calls =
    loading 5
    ∷ requesting (hash 0) token_blob
    ∷ requesting (hash 0) recovery
    ∷ requesting (hash 0) (stored_recovery ++ on_devices 4)
    ∷ requesting (hash 0) (stored_recovery ++ on_devices 2)
    ∷ requesting (hash 0) (decrypt 5 ++ certificate 13 1 ++ decrypt_link 9 10 ++ decrypt_link 10 13)
    ∷ requesting (hash 0) (decrypt 5 ++ certificate 13 1 ++ decrypt_link 9 10 ++ sign_link 10 13)
    ∷ expanding (hash 0) (enlarge 6) expandable
    ∷ narrowing (hash 0) (reduce 6) (smaller ++ smaller) (hint 0 ++ hint 0)
    ∷ narrowing (hash 0) (reduce 6) smaller (hint 0)
    ∷ requesting (hash 0) (sign 6)
    ∷ requesting (hash 0) (sign 6)
    ∷ clearing 3
    ∷ loading 7
    ∷ requesting (hash 0) (sign 7)
    ∷ requesting (hash 0) (sign 6)
    ∷ []

abbrev pub grade : Grade
grade = record { protection = 3; recoverable = true }

abbrev pub start : State
start = record { ledger = fresh_ledger; acl = useful }

-- The officer's group, with ExportAsPlain; its use by a chain that starts at the officer's key, which is key 4.
abbrev pub officers : Bytes
officers = rec (1 ∷ 0 ∷ 0 ∷ 1 ∷ [] ++ hash 4) ++ rec (3 ∷ 0 ∷ 0 ∷ 0 ∷ 4 ∷ 0 ∷ [])

abbrev pub exporting : Call
exporting = requesting (hash 0) (timed (6 ∷ 0 ∷ 0 ∷ 0 ∷ 10 ∷ []) 5 ++ certificate 13 1 ++ delegation 4 13 4 0)

-- the bundle and the ACL are accepted; the calls are answered so; none of them presents the officer's certificate or a chain from the officer's
-- key. Last, that the premise about chains is needed: a call that presents such a chain is permitted what the policy does not admit.
pub witness : (desk bundle useful ≡ accepted (approach2 grade))
    × (replies start calls ≡ (done ∷ permit 0 ∷ permit 0 ∷ permit 0 ∷ refuse 5 none ∷ permit 1 ∷ refuse 6 (some 1) ∷ refuse 5 none ∷ refuse 8 none ∷ permit 0 ∷ permit 0 ∷ refuse 7 (some 0) ∷ done ∷ done ∷ permit 0 ∷ refuse 4 none ∷ []))
    × (map (officer_signed (records bundle)) calls ≡ replicate 16 false)
    × (desk bundle officers ≡ accepted (approach2 (record { protection = 4; recoverable = true })))
    × (replies (record { ledger = fresh_ledger; acl = officers }) (exporting ∷ []) ≡ (permit 0 ∷ []))
    × (officer_signed (records bundle) exporting ≡ true)
    × (policy_admits (policy_of (records bundle)) (class_of 10) ≡ false)
unfolding outcome after by_officer computing
witness = (refl, refl, refl, refl, refl, refl, refl)

-- So demand 3 covers what they are permitted.
pub witness_covered : EveryPermit (λ s c. Allowed (records bundle) grade (wanted_in c)) start calls
unfolding by_officer computing
witness_covered =
    demand_3 bundle useful grade witness.0 fresh_ledger calls (refl, (refl, (refl, (refl, (refl, (refl, (refl, (refl, (refl, (refl, (refl, (refl, (refl, (refl, (refl, (refl, tt))))))))))))))))

-- Request n speaks of something, too: a cardset action in a group with a certifier, where hkm is KM0.
abbrev pub kept : Bytes
kept = rec (1 ∷ 0 ∷ 0 ∷ 3 ∷ [] ++ hash 9 ++ (0 ∷ 1 ∷ [])) ++ blob 28 (hash 20) cardset

pub reached_witness : BlobPermitted bundle kept (hash 6) (loaded_at fresh_ledger 7) 9 3 (certificates_for (acl_of kept))
unfolding certificates_for computing
reached_witness =
    (grade_reached_exhibited bundle kept (record { protection = 3; recoverable = false }) (hash 6) fresh_ledger 7 9
    (record {
      unlimited = (refl, tt);
      accepts = refl;
      graded = omega arith;
      unmixed = ((refl, tt), tt);
      returned = ((refl, tt), tt);
      not_null = λ e. false≢true (ap (λ (h : Option Bytes). both_same h (some null_key)) e);
      home = ((inr refl, tt), tt);
      km0_sized = refl;
      after_load = omega arith;
      few = omega arith;
    })).0

-- The same computed: the certificates that are built, the request's bytes, the gate's answer to them, and the blob's protection.
abbrev pub kept_blob : WorkingBlob
kept_blob = record { key = hash 6; token = some (record { hash = hash 20; parameters = record { flags = 0; needed = 1; total = 2; time_limit = 0 } }) }

abbrev pub kept_request : Bytes
kept_request = timed (7 ∷ 0 ∷ 0 ∷ 1 ∷ [] ++ hash 6 ++ hash 20 ++ cardset) 9 ++ certificate 9 1

pub reached_computed : (certificates_for (acl_of kept) ≡ record { hash = hash 9; mechanism = 1 } ∷ [])
    × (blob_request_file kept_blob 9 (certificates_for (acl_of kept)) ≡ kept_request)
    × ((request (loaded_at fresh_ledger 7) (hash 6) kept kept_request).answer ≡ permit 0)
    × (blob_protection (records bundle) kept_blob ≡ 3)
unfolding certificates_for computing
reached_computed = (refl, refl, refl, refl)

-- The other two protections, in an open group, under another KM0: 1 by AllowKmOnly, and 2 by a softcard beside a cardset.
pub reached_direct : BlobPermitted bundle (open_group ++ blob 7 (hash 0) []) (hash 0) (loaded_at fresh_ledger 7) 9 1 []
unfolding certificates_for computing
reached_direct =
    (grade_reached_exhibited bundle (open_group ++ blob 7 (hash 0) []) (record { protection = 1; recoverable = false }) (hash 0) fresh_ledger 7 9
    (record {
      unlimited = (refl, tt);
      accepts = refl;
      graded = omega arith;
      unmixed = ((refl, tt), tt);
      returned = ((refl, tt), tt);
      not_null = λ e. false≢true (ap (λ (h : Option Bytes). both_same h (some null_key)) e);
      home = ((inl refl, tt), tt);
      km0_sized = refl;
      after_load = omega arith;
      few = omega arith;
    })).0

abbrev pub soft : Bytes
soft = open_group ++ blob 30 (hash 20) cardset ++ blob 30 (hash 21) softcard

pub reached_softcard : BlobPermitted bundle soft (hash 0) (loaded_at fresh_ledger 7) 9 2 []
unfolding certificates_for computing
reached_softcard =
    (grade_reached_exhibited bundle soft (record { protection = 2; recoverable = false }) (hash 0) fresh_ledger 7 9
    (record {
      unlimited = (refl, tt);
      accepts = refl;
      graded = omega arith;
      unmixed = ((refl, (refl, tt)), tt);
      returned = ((refl, (refl, tt)), tt);
      not_null = λ e. false≢true (ap (λ (h : Option Bytes). both_same h (some null_key)) e);
      home = ((inl refl, (inl refl, tt)), tt);
      km0_sized = refl;
      after_load = omega arith;
      few = omega arith;
    })).0

-- Request m does as well. Three uses per load, of Sign or ReduceACL; a use, a narrowing to the same limit, a use: the fourth is refused, for the narrowing
-- gave none back. A reload does. Each permit is put down to group 0 of the first ACL, by an account that is charged for it alone.
abbrev pub three : Bytes
three = open_group ++ rec (2 ∷ 0 ∷ 0 ∷ 0 ∷ 1 ∷ 0 ∷ 0 ∷ 0 ∷ 0 ∷ 0 ∷ 0 ∷ 3 ∷ []) ++ rec (3 ∷ 0 ∷ 0 ∷ 0 ∷ 0 ∷ 0x14 ∷ [])

abbrev pub narrowed : List Call
narrowed =
    requesting (hash 0) (sign 6)
    ∷ narrowing (hash 0) (reduce 6) (limited 1 3) (hint 0)
    ∷ requesting (hash 0) (sign 6)
    ∷ requesting (hash 0) (sign 6)
    ∷ loading 9
    ∷ requesting (hash 0) (sign 9)
    ∷ []

abbrev pub loaded : State
loaded = record { ledger = loaded_at fresh_ledger 5; acl = three }

pub narrowed_witness : (replies loaded narrowed ≡ (permit 0 ∷ permit 0 ∷ permit 0 ∷ refuse 7 (some 0) ∷ done ∷ permit 0 ∷ []))
    × EveryPermit (λ s c. is_expansion c ≡ false) loaded narrowed
    × AllPutDown (acl_of three) (loaded_at fresh_ledger 5) loaded narrowed
unfolding outcome after computing
narrowed_witness = (
  refl,
  no_expansion loaded narrowed (refl, (refl, (refl, (refl, (refl, (refl, tt)))))),
  (0, _, refl, refl, (0, _, refl, refl, (0, _, refl, refl, (0, _, refl, refl, tt)))),
)

-- A sequence with a named counter, a clear, a blob that is stored and a use by a chain of delegations. Group 0 may be used twice by counter 3; the narrowing,
-- which is the second use, takes one device from it. The stored blob after that is refused until the counter is cleared.
abbrev pub counted : Bytes → Bytes → Bytes
counted action devices = open_group ++ rec (2 ∷ 0 ∷ 0 ∷ 0 ∷ 2 ∷ 3 ∷ 0 ∷ 0 ∷ 0 ∷ 0 ∷ 0 ∷ 2 ∷ []) ++ action ++ stored_archive ++ devices

abbrev pub decrypting : Bytes
decrypting = rec (1 ∷ 0 ∷ 0 ∷ 3 ∷ [] ++ hash 9 ++ (0 ∷ 1 ∷ [])) ++ rec (3 ∷ 0 ∷ 0 ∷ 0 ∷ 2 ∷ 0 ∷ [])

abbrev pub storing : Bytes
storing = counted (rec (3 ∷ 0 ∷ 0 ∷ 0 ∷ 0 ∷ 0x14 ∷ [])) (on_devices 5) ++ decrypting

abbrev pub stored_later : Bytes
stored_later = timed (8 ∷ 0 ∷ 0 ∷ 64 ∷ [] ++ hash 7 ++ (0 ∷ 2 ∷ [])) 6 ++ on_devices 4

abbrev pub presenting : List Call
presenting =
    requesting (hash 0) (stored_recovery ++ on_devices 4)
    ∷ narrowing (hash 0) (reduce 6) (counted [] (on_devices 4) ++ decrypting) (hint_to 0 1 ++ hint 1)
    ∷ requesting (hash 0) stored_later
    ∷ clearing 3
    ∷ requesting (hash 0) stored_later
    ∷ requesting (hash 0) (decrypt 6 ++ certificate 13 1 ++ decrypt_link 9 10 ++ decrypt_link 10 13)
    ∷ []

abbrev pub stocked : State
stocked = record { ledger = loaded_at fresh_ledger 5; acl = storing }

pub presented_witness : (replies stocked presenting ≡ (permit 0 ∷ permit 0 ∷ refuse 7 (some 0) ∷ done ∷ permit 0 ∷ permit 1 ∷ []))
    × EveryPermit (λ s c. is_expansion c ≡ false) stocked presenting
    × AllPutDown (acl_of storing) (loaded_at fresh_ledger 5) stocked presenting
unfolding outcome after computing
presented_witness = (
  refl,
  no_expansion stocked presenting (refl, (refl, (refl, (refl, (refl, (refl, tt)))))),
  (0, _, refl, refl, (0, _, refl, refl, (0, _, refl, refl, (1, _, refl, refl, tt)))),
)
