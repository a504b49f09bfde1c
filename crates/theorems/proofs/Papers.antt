-- Every theorem that documents 01 and 02 demand, once, in the papers' order: the paper's sentence, the statement in full, and where it is proved. The words of the
-- statements are in specs/ here and in crates/rules/specs/ and crates/text_rules/specs/. docs/PROMISES.md says each in plain English.
use Prim.Native.Nat.{◌+◌, ◌<◌, ◌^◌, ◌≤◌, ℕ}
use mathlib.Core.Bool.{Bool, ◌||◌, false, true}
use mathlib.Core.List.{List, [], ◌++◌, ◌∷◌, map}
use mathlib.Core.Logic.{◌↔◌, ◌⊎◌}
use mathlib.Core.Option.{Option, none, some}
use mathlib.Core.Path.{◌≡◌}
use lib.Dec.{eqb}
use lib.ListN.{drop, get_or, get_elem?, length, replicate, take}
use Rattle.rules.proofs.Samples.{blob, bundle, hash, open_group}
use Rattle.rules.specs.Acl.{Action, Group, acl_fault, acl_file_fault, acl_file_fault_under, acl_of, announces_blobfile, blobfile_record, blobfile_rule_next, blobfile_rule_of}
use Rattle.std.specs.Prelude.{if◌then◌else◌}
use Rattle.rules.specs.Basics.{Bytes, Every, any, bit, file_fault, first_fault, fits, holds_at, records, unless}
use Rattle.rules.specs.Bundle.{field, policy_of, reported}
use Rattle.rules.specs.Cabinet.{Cabinet, Slot, fresh_cabinet, ledger_at, ledger_with, slot_at}
use Rattle.rules.specs.CabinetRuns.{cabinet_prepared_run, cabinet_run}
use Rattle.rules.specs.Chain.{chained}
use Rattle.rules.specs.Desk.{Grade, Step, accepted, acl_failure, after_acl, approach2, before_acl, blob_protection, class_of, desk, desk_fault, failed, faulty, full_failure, is_archive, module_key, policy_admits, recovery_key}
use Rattle.rules.specs.Fits.{AclFits, Sized}
use Rattle.rules.specs.Gate.{clear, done, expand, expand_files, lengths_fit, load, narrow, narrow_files, permit, permitted, refuse, refused, request, request_files}
use Rattle.rules.specs.Grant.{admits, admits_use, certified}
use Rattle.rules.specs.Layout.{between}
use Rattle.rules.specs.Ledger.{Ledger, carried, charge, fresh_ledger, loaded_at, recounted}
use Rattle.rules.specs.Narrow.{narrows, no_wider}
use Rattle.rules.specs.Numbers.{bad_length, malformed, no_slot, not_narrower, short_buffer}
use Rattle.rules.specs.Prepared.{Form, is_blob_action, prepare, prepared, prepared_fault, prepared_run, unprepared}
use Rattle.rules.specs.Request.{Certificate, Delegation, Hint, Request, Wanted, hints_fault, hints_file_fault, hints_of, presented_fault, reduce_acl, request_fault, request_of, stands_alone, use_of}
use Rattle.rules.specs.Runs.{Decoded, answered_first, ask_gate, asked_in_order, ran, refused_whole, requests_in, run, run_fault}
use Rattle.rules.specs.Sizes.{Capacity, acl_records, chain_max, counters_max, groups_max, permissions_max, record_bytes, run_records, set_bits, slots_max, today}
use Rattle.rules.specs.Subject.{subject, subject_buffer, subject_reply, unwritten, written}
use Rattle.rules.specs.Suites.{is_suite, suite_mechanism}
use Rattle.rules.specs.Trim.{roomy, trim_acl_buffer, trim_fault, trim_hint_buffer, trim_hints, trim_reply, trimmed, trimmed_acl, unread, untrimmed}
use Rattle.rules.specs.Written.{Octets}
use Rattle.text_rules.specs.Listing.{FirstBad, Octet, read_as, bad_line, delivered, is_refusal, produced, read_listing, read_listing_into, write_listing}
use Rattle.text_rules.specs.Kinds.{acl_kind}
use Rattle.text_rules.specs.Words.{listing_max, listing_of}
use Rattle.theorems.proofs.CabinetWitness.{elsewhere, one_run, other_run, shared}
use Rattle.theorems.proofs.Files.{IsBlobAction}
use Rattle.theorems.proofs.Witness.{calls, exporting, grade, kept, kept_blob, kept_request, loaded, narrowed, officers, presenting, soft, start, stocked, storing, three, useful}
use Rattle.theorems.specs.Account.{AllPutDown, is_expansion}
use Rattle.theorems.specs.CabinetSteps.{CabinetStep, cabinet_after_steps, cabinet_answers, cabinet_calls_in, cabinet_requests_of}
use Rattle.theorems.specs.Cabinets.{CabinetCall, LentInForce, PermitAllowed, Unsigned, cabinet_after, cabinet_after_all, cabinet_outcome, cabinet_replies, cabinet_tally, calls_to, clearing_all, counters_in, counters_lent, gate_call, gate_outcome, is_slot, readings_before, slot_in, turns}
use Rattle.theorems.specs.Capacity.{AcceptedUnder, AclFitsUnder, AllAcceptedUnder, NoSmaller, SizedUnder, after_all_under, base, outcome_carried_over, outcome_under, read_listing_under, replies_under, state_carried_over}
use Rattle.theorems.specs.Certification.{Certified, Chain, ChainPresents, Presents, Vouched}
use Rattle.theorems.specs.Charges.{Carried, Charged, Cleared, Loaded, Zeroed}
use Rattle.theorems.specs.Demands.{Allowed, Call, EveryHandedPermit, EveryPermit, Handed, Lent, State, WithinVerdict, after, after_all, by_officer, ledger_after, lent_in_force, names, officer_signed, one_of, outcome, replies, tally, wanted_in}
use Rattle.theorems.specs.Exhibit.{AllPresented, BlobPermitted, GradePremises, blob_request_file, certificates_for}
use Rattle.theorems.specs.Narrowings.{Closed, Rising, own_hints}
use Rattle.theorems.specs.Numbers.{Numbered, RefusalIn, cabinet_numbers, desk_numbers, file_numbers, narrow_numbers, prepared_numbers, request_numbers, run_numbers, subject_numbers, subject_replies}
use Rattle.theorems.specs.Permits.{Granting, IsPermitted, Permitted, RefusedExactly, UncertifiedExactly}
use Rattle.theorems.specs.Presented.{Following, Presenting, PresentsMore, PresentsSame, Straight}
use Rattle.theorems.specs.Safety.{KnownUse, Safe}
use Rattle.theorems.specs.Steps.{HostStep, after_steps, answers_to, calls_by, calls_in, running, running_prepared}
use Rattle.theorems.specs.Tables.{Alike, Bounded, CabinetBounded, CabinetSized}
use Rattle.theorems.specs.Trimmed.{GroupsTrimmed, Trimmed}
use Rattle.theorems.proofs.Demand1 as Demand1
use Rattle.theorems.proofs.Refusals as Refusals
use Rattle.theorems.proofs.Demand2 as Demand2
use Rattle.theorems.proofs.Permit as Permit
use Rattle.theorems.proofs.Charges as Charges
use Rattle.theorems.proofs.Hints as Hints
use Rattle.theorems.proofs.Counters as Counters
use Rattle.theorems.proofs.Steps as Steps
use Rattle.theorems.proofs.Demand3 as Demand3
use Rattle.theorems.proofs.Certification as Certification
use Rattle.theorems.proofs.Trust as Trust
use Rattle.theorems.proofs.Witness as Witness
use Rattle.rules.proofs.AclSizes as AclSizes
use Rattle.theorems.proofs.RequestFile as RequestFile
use Rattle.theorems.proofs.Tables as Tables
use Rattle.theorems.proofs.Bounds as Bounds
use Rattle.theorems.proofs.Monotone as Monotone
use Rattle.theorems.proofs.Accepted as Accepted
use Rattle.theorems.proofs.Subjects as Subjects
use Rattle.text_rules.proofs.Acl as Listings
use Rattle.text_rules.proofs.Entries as Entries
use Rattle.text_rules.proofs.Lengths as Lengths
use Rattle.theorems.proofs.Keyed as Keyed
use Rattle.theorems.proofs.Uncertified as Uncertified
use Rattle.theorems.proofs.Loops as Loops
use Rattle.theorems.proofs.CarriedOver as CarriedOver
use Rattle.theorems.proofs.Larger as Larger
use Rattle.theorems.proofs.OldListings as OldListings
use Rattle.theorems.proofs.Slots as Slots
use Rattle.theorems.proofs.CabinetTables as CabinetTables
use Rattle.theorems.proofs.SharedCounters as SharedCounters
use Rattle.theorems.proofs.CabinetRuns as CabinetRuns
use Rattle.theorems.proofs.Isolation as Isolation
use Rattle.theorems.proofs.NamedCounters as NamedCounters
use Rattle.theorems.proofs.SlotDemand3 as SlotDemand3
use Rattle.theorems.proofs.CabinetWitness as CabinetWitness
use Rattle.theorems.proofs.Files as Files
use Rattle.theorems.proofs.Runs as Runs
use Rattle.theorems.proofs.RunNumbers as RunNumbers
use Rattle.theorems.proofs.Prepared as Prepared
use Rattle.theorems.proofs.Trim as Trim
use Rattle.theorems.proofs.Uses as Uses
use Rattle.theorems.proofs.Cautious as Cautious

-- Demand 1: a refusal changes nothing. Document 01, "Refusal numbers".

-- "All return only the number (or step); ledger and buffers stand."
-- A refused call leaves the ledger and the ACL in force as they were.
pub demand_1 : (s : State) (c : Call) (n : ℕ) (near : Option ℕ) → (outcome s c).answer ≡ refuse n near → after s c ≡ s
demand_1 = Demand1.demand_1

-- A refused subject leaves the buffer as it was.
pub subject_stands : (certificate suite : ℕ) (hashes buffer : Bytes) (n : ℕ) → subject_reply certificate suite hashes buffer ≡ unwritten n → subject_buffer certificate suite hashes buffer ≡ buffer
subject_stands = Refusals.subject_stands

-- "Order: 1 over all inputs, then records from the first, inputs in the order ACL, request with certificates, new ACL, hints (desk: bundle, ACL);
-- within one record 2 before 3; suite 11 after that; then 4, 5, 6, 7, 8. Subject writer: 10, 11, 1, 9."
-- A request is refused with 1 to 7 or 12; 6 and 7 carry a group, and no other number does.
pub request_number : (l : Ledger) (km0 acl req : Bytes) → RefusalIn request_numbers (request l km0 acl req)
request_number = Refusals.request_number

-- A narrowing can also be refused with 8.
pub narrow_number : (l : Ledger) (km0 acl req new hints : Bytes) → RefusalIn narrow_numbers (narrow l km0 acl req new hints)
narrow_number = Refusals.narrow_number

-- An expansion has the numbers of a request.
pub expand_number : (l : Ledger) (km0 acl req new : Bytes) → RefusalIn request_numbers (expand l km0 acl req new)
expand_number = Refusals.expand_number

-- A clear can only be refused with 10.
pub clear_number : (l : Ledger) (counter : ℕ) → RefusalIn (10 ∷ []) (clear l counter)
clear_number = Refusals.clear_number

-- The desk refuses with 1, 2, 3, 11 or 12.
pub desk_number : (bundle acl : Bytes) (n : ℕ) → desk bundle acl ≡ faulty n → one_of desk_numbers n ≡ true
desk_number = Refusals.desk_number

-- The subject writer refuses with 10, 11, 1 or 9.
pub subject_number : (certificate suite : ℕ) (hashes buffer : Bytes) (n : ℕ) → subject_reply certificate suite hashes buffer ≡ unwritten n → one_of subject_numbers n ≡ true
subject_number = Refusals.subject_number

-- Demand 2: permitted exactly when some group grants. Document 01, "When a group grants" and "How far the promises go".

-- "The lowest group with all three is the reply and is charged: own count and each named counter plus 1, last time set to the request's."
-- A request or an expansion is permitted exactly when its files have no fault, its time does not go back, and some group admits it, is certified and
-- is unspent; a narrowing exactly when, besides, the hints show one.
pub demand_2 : (l : Ledger) (km0 acl req new hints : Bytes)
    → (IsPermitted (request l km0 acl req) ↔ Granting (request_files km0 acl req) l km0 (acl_of acl) (request_of req))
    × (IsPermitted (narrow l km0 acl req new hints)
    ↔ (Granting (narrow_files km0 acl req new hints) l km0 (acl_of acl) (request_of req) × (narrows (acl_of acl) (acl_of new) (hints_of hints) ≡ true)))
    × (IsPermitted (expand l km0 acl req new) ↔ Granting (expand_files km0 acl req new) l km0 (acl_of acl) (request_of req))
demand_2 = Demand2.demand_2

-- The reply of a permitted request is the lowest such group.
pub permit_needs : (l : Ledger) (km0 acl req : Bytes) (k : ℕ) → (request l km0 acl req).answer ≡ permit k
    → (g : Group) × Permitted (request_files km0 acl req) l km0 (acl_of acl) (request_of req) k g
permit_needs = Permit.permit_needs

-- If a group is the lowest such group, the outcome is a permit by it and the ledger charged for it.
pub permit_comes : (l : Ledger) (km0 acl req : Bytes) (k : ℕ) (g : Group) → Permitted (request_files km0 acl req) l km0 (acl_of acl) (request_of req) k g
    → request l km0 acl req ≡ permitted k (charge l k g (request_of req).time)
permit_comes = Permit.permit_comes

-- The reply of a permitted narrowing is the lowest such group, and the hints show one.
pub narrow_needs : (l : Ledger) (km0 acl req new hints : Bytes) (k : ℕ) → (narrow l km0 acl req new hints).answer ≡ permit k
    → (g : Group) × Permitted (narrow_files km0 acl req new hints) l km0 (acl_of acl) (request_of req) k g × (narrows (acl_of acl) (acl_of new) (hints_of hints) ≡ true)
narrow_needs = Permit.narrow_needs

-- The outcome of such a narrowing: the ledger charged, then with the group counts that the hints carry over.
pub narrow_comes : (l : Ledger) (km0 acl req new hints : Bytes) (k : ℕ) (g : Group) → Permitted (narrow_files km0 acl req new hints) l km0 (acl_of acl) (request_of req) k g
    → narrows (acl_of acl) (acl_of new) (hints_of hints) ≡ true
    → let charged = charge l k g (request_of req).time in
    narrow l km0 acl req new hints ≡ permitted k (recounted charged (carried charged.counts (hints_of hints)))
narrow_comes = Permit.narrow_comes

-- The reply of a permitted expansion is the lowest such group.
pub expand_needs : (l : Ledger) (km0 acl req new : Bytes) (k : ℕ) → (expand l km0 acl req new).answer ≡ permit k
    → (g : Group) × Permitted (expand_files km0 acl req new) l km0 (acl_of acl) (request_of req) k g
expand_needs = Permit.expand_needs

-- The outcome of such an expansion: the ledger charged, then with group counts of zero.
pub expand_comes : (l : Ledger) (km0 acl req new : Bytes) (k : ℕ) (g : Group) → Permitted (expand_files km0 acl req new) l km0 (acl_of acl) (request_of req) k g
    → expand l km0 acl req new ≡ permitted k (recounted (charge l k g (request_of req).time) (replicate groups_max 0))
expand_comes = Permit.expand_comes

-- What a permitted request does to each entry of the ledger.
pub request_charges : (l : Ledger) (km0 acl req : Bytes) (place : ℕ) → Sized l → (request l km0 acl req).answer ≡ permit place
    → (g : Group) × (get_elem? (acl_of acl) place ≡ some g) × Charged l place g (request_of req).time (request l km0 acl req).ledger
request_charges = Charges.request_charges

-- "no group admits / none admitting is certified / none admitting and certified is unspent"
-- Each number is given to a request exactly in its case: 1, 2, 3 and 12, 4, 5, 6 and 7.
pub request_refused : (l : Ledger) (km0 acl req : Bytes) → RefusedExactly (request_files km0 acl req) l km0 (acl_of acl) (request_of req) (request l km0 acl req)
request_refused = Demand2.request_refused

-- The same for a narrowing.
pub narrow_refused : (l : Ledger) (km0 acl req new hints : Bytes) → RefusedExactly (narrow_files km0 acl req new hints) l km0 (acl_of acl) (request_of req) (narrow l km0 acl req new hints)
narrow_refused = Demand2.narrow_refused

-- The same for an expansion.
pub expand_refused : (l : Ledger) (km0 acl req new : Bytes) → RefusedExactly (expand_files km0 acl req new) l km0 (acl_of acl) (request_of req) (expand l km0 acl req new)
expand_refused = Demand2.expand_refused

-- "Any breach, a hint too few or too many, or one naming nothing gives 8."
-- A narrowing is refused with 8 exactly when a group grants it and the hints do not show a narrowing.
pub narrow_breached : (l : Ledger) (km0 acl req new hints : Bytes) → ((narrow l km0 acl req new hints).answer ≡ refuse not_narrower none)
    ↔ (Granting (narrow_files km0 acl req new hints) l km0 (acl_of acl) (request_of req) × (narrows (acl_of acl) (acl_of new) (hints_of hints) ≡ false))
narrow_breached = Demand2.narrow_breached

-- "Demand 2 shuts these out: .. a narrowing check that always says 8, made-up counters"
-- Every ACL narrows to itself, by the hints file that names each group and action by its own place.
pub narrows_itself : (acl : Bytes) → acl_file_fault acl ≡ none
    → (hints_file_fault (own_hints (acl_of acl)) ≡ none) × (narrows (acl_of acl) (acl_of acl) (hints_of (own_hints (acl_of acl))) ≡ true)
narrows_itself = Hints.narrows_itself

-- From a fresh ledger, over any calls, each with any ACL: a counter reads the permits charged to groups that then named it, since it was last
-- cleared.
pub counters_count_lent : (calls : List Lent) (counter : ℕ) → counter < counters_max
    → get_or (ledger_after fresh_ledger calls).counters counter 0 ≡ tally counter fresh_ledger 0 calls
counters_count_lent = Counters.counters_count_lent

-- The same where each call has the ACL in force.
pub counters_count : (acl : Bytes) (calls : List Call) (counter : ℕ) → counter < counters_max
    → let start : State = record { ledger = fresh_ledger; acl = acl } in
    get_or (after_all start calls).ledger.counters counter 0 ≡ tally counter fresh_ledger 0 (lent_in_force start calls)
counters_count = Counters.counters_count

-- The same with runs among the calls.
pub counters_count_steps : (acl : Bytes) (steps : List HostStep) (counter : ℕ) → counter < counters_max
    → let start : State = record { ledger = fresh_ledger; acl = acl } in
    get_or (after_steps start steps).ledger.counters counter 0 ≡ tally counter fresh_ledger 0 (lent_in_force start (calls_in start steps))
counters_count_steps = Steps.counters_count_steps

-- Demand 3: nothing permitted goes beyond the verdict. Document 01, "How far the promises go".

-- "Demand 3 is a single claim about the sequence, not one for each call. The ACL in force is first the accepted one; a permitted replacement (reply a
-- group) makes it the new one, and no other call changes it."
-- If the desk accepts a bundle and an ACL under approach 2, and no call presents a certificate by the officer's key or a chain from it, then every
-- permitted call asks for what the verdict allows.
pub demand_3 : (bundle acl : Bytes) (verdict : Grade) → desk bundle acl ≡ accepted (approach2 verdict)
    → (ledger : Ledger) (calls : List Call) → Every (λ c. officer_signed (records bundle) c ≡ false) calls
    → EveryPermit (λ s c. Allowed (records bundle) verdict (wanted_in c)) (record { ledger = ledger; acl = acl }) calls
demand_3 = Demand3.demand_3

-- The same, whatever ledger each call is given.
pub demand_3_handed : (bundle acl : Bytes) (verdict : Grade) → desk bundle acl ≡ accepted (approach2 verdict)
    → (calls : List Handed) → Every (λ x. officer_signed (records bundle) x.call ≡ false) calls
    → EveryHandedPermit (λ s c. Allowed (records bundle) verdict (wanted_in c)) acl calls
demand_3_handed = Demand3.demand_3_handed

-- The same with runs among the calls.
pub demand_3_steps : (bundle acl : Bytes) (verdict : Grade) → desk bundle acl ≡ accepted (approach2 verdict)
    → (ledger : Ledger) (steps : List HostStep)
    → let start : State = record { ledger = ledger; acl = acl } in
    Every (λ c. officer_signed (records bundle) c ≡ false) (calls_in start steps)
    → EveryPermit (λ s c. Allowed (records bundle) verdict (wanted_in c)) start (calls_in start steps)
demand_3_steps = Steps.demand_3_steps

-- "The officer's key is the bundle's field 4, and a certificate is by it if it carries that hash; without field 4 none is."
-- A request presents the officer's certificate, or a chain of delegations that starts at the officer's key and leads to a presented certificate.
pub officer_is : (officer : Option Bytes) (q : Request) → (by_officer officer q ≡ true) ↔ ((k : Bytes) × (officer ≡ some k) × Vouched q k none)
officer_is = Certification.officer_is

-- "The trusted module key is field 6 if hkm is trusted, the recovery key field 7 if hkre is."
-- The module key is field 6 if signature 3 or 4 is present and the steps before the ACL pass.
pub module_key_trusted : (b : List Bytes) (passed : before_acl b ≡ none) → module_key b ≡ (if reported 3 b || reported 4 b then field 6 b else none)
module_key_trusted = Trust.module_key_trusted

-- The recovery key is field 7 if signature 5 is present and those steps pass.
pub recovery_key_trusted : (b : List Bytes) (passed : before_acl b ≡ none) → recovery_key b ≡ (if reported 5 b then field 7 b else none)
recovery_key_trusted = Trust.recovery_key_trusted

-- "alone, a desk or gate that refuses all satisfies it"
-- The premises of demand 3 can be met: an accepted bundle and ACL, and sixteen calls, seven of them permitted. The premise about chains is needed.
pub witness : (desk bundle useful ≡ accepted (approach2 grade))
    × (replies start calls ≡ (done ∷ permit 0 ∷ permit 0 ∷ permit 0 ∷ refuse 5 none ∷ permit 1 ∷ refuse 6 (some 1) ∷ refuse 5 none ∷ refuse 8 none ∷ permit 0 ∷ permit 0 ∷ refuse 7 (some 0) ∷ done ∷ done ∷ permit 0 ∷ refuse 4 none ∷ []))
    × (map (officer_signed (records bundle)) calls ≡ replicate 16 false)
    × (desk bundle officers ≡ accepted (approach2 (record { protection = 4; recoverable = true })))
    × (replies (record { ledger = fresh_ledger; acl = officers }) (exporting ∷ []) ≡ (permit 0 ∷ []))
    × (officer_signed (records bundle) exporting ≡ true)
    × (policy_admits (policy_of (records bundle)) (class_of 10) ≡ false)
witness = Witness.witness

-- Demand 3 covers these calls.
pub witness_covered : EveryPermit (λ s c. Allowed (records bundle) grade (wanted_in c)) start calls
witness_covered = Witness.witness_covered

-- Document 01, sentence by sentence: "Records".

-- "An ACL is groups, each followed by its limits, then its actions: at most 16 groups, 4 limits and 8 actions per group"
-- An ACL without fault fits the tables, and no group names a counter twice.
pub acl_fits : (file : Bytes) → acl_fault (records file) ≡ none → AclFits (acl_of file)
acl_fits = AclSizes.acl_fits

-- "A request record comes first, then at most 32 certificates."
-- The records after the first are without fault exactly if they are at most 32 certificates and then at most 16 delegations, each well formed.
pub presented_exactly : (rs : List Bytes) → (presented_fault rs ≡ none) ↔ Presenting rs
presented_exactly = RequestFile.presented_exactly

-- Certificates and delegations are those of the file, all of them and in its order; a record of kind 15 follows the first exactly where that
-- announces it.
pub presented_all : (first : Bytes → Bool) (r : Bytes) (rs : List Bytes) → request_fault first (r ∷ rs) ≡ none → Following r rs
presented_all = RequestFile.presented_all

-- Document 01, "When a group grants".

-- "It is **certified** if it has no certifier, or a presented certificate has that hash and, where named, that mechanism."
-- The gate's test is true exactly if the group is certified in these words, a chain of delegations included (request f).
pub certified_is : (q : Request) (g : Group) → (certified q g ≡ true) ↔ Certified q g
certified_is = Certification.certified_is

-- Document 01, "The ledger".

-- "It has sixteen group counts, ninety-six named counters, all zero in a fresh ledger, load time and last time (64-bit seconds, fresh 0); counts and
-- counters are 32-bit."
-- A fresh ledger's tables have their sizes.
pub fresh_sized : Sized fresh_ledger
fresh_sized = Tables.fresh_sized

-- Each call keeps them.
pub call_sized : (s : State) (c : Call) → Sized s.ledger → Sized (outcome s c).ledger
call_sized = Tables.call_sized

-- So does a sequence of calls.
pub calls_sized : (s : State) (cs : List Call) → Sized s.ledger → Sized (after_all s cs).ledger
calls_sized = Tables.calls_sized

-- The counts of a fresh ledger fit 32 bits.
pub fresh_bounded : Bounded fresh_ledger
fresh_bounded = Bounds.fresh_bounded

-- They still do after each call.
pub call_bounded : (s : State) (c : Call) → Bounded s.ledger → Bounded (outcome s c).ledger
call_bounded = Bounds.call_bounded

-- "Load, at any time given: group counts zero, both times set to it. Clear: one named counter to zero."
-- A load sets the group counts to zero and both times to the time given; the counters are unchanged.
pub load_loads : (l : Ledger) (time : ℕ) → ((load l time).answer ≡ done) × Loaded l time (load l time).ledger
load_loads = Charges.load_loads

-- A clear sets one counter to zero and changes nothing else.
pub clear_clears : (l : Ledger) (counter : ℕ) → Sized l → counter < counters_max → ((clear l counter).answer ≡ done) × Cleared l counter (clear l counter).ledger
clear_clears = Charges.clear_clears

-- "Narrowing is a use of ReduceACL, with one hint per new group. Sources rise strictly."
-- Hints that show a narrowing are as many as the new groups, and their sources rise strictly.
pub narrows_shown : (old new : List Group) (hints : List Hint) → narrows old new hints ≡ true → (length hints ≡ length new) × Rising 0 hints
narrows_shown = Hints.narrows_shown

-- So no two new groups have the same source.
pub sources_differ : (low : ℕ) (h : Hint) (hs : List Hint) → Rising low (h ∷ hs) → Every (λ k. h.source < k.source) hs
sources_differ = Hints.sources_differ

-- "each action is of the hinted action's kind and no wider"
-- What an action admits, every action that it narrows admits too.
pub admits_wider : (km0 : Bytes) (w : Wanted) (n o : Action) → KnownUse w → no_wider n o ≡ true → admits km0 w n ≡ true → admits km0 w o ≡ true
admits_wider = Monotone.admits_wider

-- "Each new group takes its source's count after charging; counts past the last new group are zero. Expansion is a use of ExpandACL and zeroes all
-- group counts."
-- What a permitted narrowing does to each entry of the ledger.
pub narrow_charges : (l : Ledger) (km0 acl req new hints : Bytes) (place : ℕ) → Sized l → (narrow l km0 acl req new hints).answer ≡ permit place
    → (g : Group) × (get_elem? (acl_of acl) place ≡ some g) × Carried l place g (request_of req).time (acl_of new) (hints_of hints) (narrow l km0 acl req new hints).ledger
narrow_charges = Charges.narrow_charges

-- What a permitted expansion does to each entry of the ledger.
pub expand_charges : (l : Ledger) (km0 acl req new : Bytes) (place : ℕ) → Sized l → (expand l km0 acl req new).answer ≡ permit place
    → (g : Group) × (get_elem? (acl_of acl) place ≡ some g) × Zeroed l g (request_of req).time (expand l km0 acl req new).ledger
expand_charges = Charges.expand_charges

-- Document 01, "The desk" and "Certificate subjects".

-- "ACL, in record order: a group whose certifier equals a present field 4 marks the key recoverable and is skipped (ACLV1). Else per action:"
-- Each group of an accepted ACL has the officer's key as certifier, or all that its actions admit is within the verdict.
pub accepted_safe : (bundle acl : Bytes) (g : Grade) → desk bundle acl ≡ accepted (approach2 g) → Every (Safe (field 4 (records bundle)) (λ km0. WithinVerdict (records bundle) g)) (acl_of acl)
accepted_safe = Accepted.accepted_safe

-- "Bytes past the length stay."
-- The reply is the subject's length; the subject is at the front of the buffer, and the bytes past it are unchanged.
pub subject_written : (certificate suite : ℕ) (hashes buffer : Bytes) (n : ℕ) → subject_reply certificate suite hashes buffer ≡ written n
    → (n ≡ length (subject certificate suite hashes)) × (subject_buffer certificate suite hashes buffer ≡ subject certificate suite hashes ++ drop n buffer)
subject_written = Refusals.subject_written

-- The buffer keeps its length.
pub subject_sized : (certificate suite : ℕ) (hashes buffer : Bytes) → length (subject_buffer certificate suite hashes buffer) ≡ length buffer
subject_sized = Refusals.subject_sized

-- Document 02, request a.

-- "Refusal 11 now means not 1 to 5; RB3 and demand 3 read the longer list."
-- The suites are 1 to 5.
pub suite_numbers : (n : ℕ) → is_suite n ≡ between 1 5 n
suite_numbers = Subjects.suite_numbers

-- Their recovery mechanisms are 1, 2, 2, 3 and 4.
pub suite_mechanisms : map suite_mechanism (1 ∷ 2 ∷ 3 ∷ 4 ∷ 5 ∷ []) ≡ map some (1 ∷ 2 ∷ 2 ∷ 3 ∷ 4 ∷ [])
suite_mechanisms = Subjects.suite_mechanisms

-- "92 bytes for certificate 3, 120 for certificate 4"
-- The lengths of the subjects under suites 1 to 5.
pub subject_lengths : (subject_replies 3 ≡ map written (72 ∷ 90 ∷ 102 ∷ 109 ∷ 92 ∷ []))
    × (subject_replies 4 ≡ map written (100 ∷ 118 ∷ 130 ∷ 137 ∷ 120 ∷ []))
    × (subject_replies 5 ≡ map written (74 ∷ 74 ∷ 74 ∷ 74 ∷ 74 ∷ []))
subject_lengths = Subjects.subject_lengths

-- Request b.

-- "Every ACL's listing reads back to the same bytes, and every listing accepted is the one that would be written for its ACL."
-- The listing of an ACL without fault is read to the same bytes.
pub listing_read_back : (file : Bytes) → Every Octet file → acl_file_fault file ≡ none → read_listing (listing_of file) ≡ read_as file
listing_read_back = Listings.listing_read_back

-- A text that is read as an ACL is the listing of that ACL, which has no fault.
pub accepted_is_written : (text file : Bytes) → read_listing text ≡ read_as file → (acl_file_fault file ≡ none) × (listing_of file ≡ text) × Every Octet file
accepted_is_written = Listings.accepted_is_written

-- What one entry point wrote, the other reads back.
pub write_then_read : (file b c : Bytes) (n : ℕ) → Every Octet file → (write_listing file b).reply ≡ produced n → length file ≤ length c → read_listing_into (take n (write_listing file b).buffer) c ≡ delivered file c none
write_then_read = Entries.write_then_read acl_kind Listings.acl_lawful

-- What one entry point read, the other writes again.
pub read_then_write : (text b c : Bytes) (n : ℕ) → (read_listing_into text b).reply ≡ produced n → length text ≤ length c → write_listing (take n (read_listing_into text b).buffer) c ≡ delivered text c none
read_then_write = Entries.read_then_write acl_kind Listings.acl_lawful

-- "A line that is not the written form of a record valid there gives a new number 15 and the first such line's number, from 1"
-- The line named by 15 is bad, and all lines before it are the listing of a valid beginning of an ACL.
pub first_bad_line : (text : Bytes) (n : ℕ) → read_listing text ≡ bad_line n → FirstBad acl_kind text n
first_bad_line = Listings.first_bad_line

-- Its number is at most 1,345.
pub bad_line_bound : (text : Bytes) (n : ℕ) → read_listing text ≡ bad_line n → n ≤ acl_records + 1
bad_line_bound = Listings.bad_line_bound

-- "On all these it stays untouched; else the reply is the result's length and bytes past it stay."
-- A refused listing leaves the buffer as it was.
pub write_refused : (file buffer : Bytes) → is_refusal (write_listing file buffer).reply ≡ true → (write_listing file buffer).buffer ≡ buffer
write_refused = Entries.write_refused acl_kind

-- So does a refused reading.
pub read_refused : (text buffer : Bytes) → is_refusal (read_listing_into text buffer).reply ≡ true → (read_listing_into text buffer).buffer ≡ buffer
read_refused = Entries.read_refused acl_kind

-- No listing has more than 164,416 bytes.
pub listing_bound : (file : Bytes) → Every Octet file → acl_file_fault file ≡ none → length (listing_of file) ≤ listing_max
listing_bound = Lengths.listing_bound

-- Request c: "What that test says is proved unchanged, and no public promise changes." It is the contract of `record_fields::all_zero`.

-- Request d: "Refusal 6 shall carry the lowest group that admits; refusal 7 the lowest that admits and is certified." It is in `RefusedExactly`, above.

-- Request e.

-- "Such an ACL is not well formed; refuse it everywhere under a new number 12"
-- In an ACL without fault, no group without a certifier has a MakeArchiveBlob action without kahash.
pub acl_closed : (acl : Bytes) → acl_fault (records acl) ≡ none → Every Closed (acl_of acl)
acl_closed = Keyed.acl_closed

-- Request f.

-- "A use request is certified for a group if a presented certificate satisfies it, or a chain of at most four delegations leads from the group's
-- certifier to a presented key, each mask holding the requested bit."
-- The gate's search finds a chain of one to four delegations to a presented certificate exactly if there is one.
pub chained_is : (p : ℕ) (ds : List Delegation) (k : Bytes) (cs : List Certificate) (m : Option ℕ) → (chained chain_max p k m cs ds ≡ true) ↔ ChainPresents p cs ds k m
chained_is = Certification.chained_is

-- "An admitted use is uncertified exactly when every admitting group names a certifier and none has such a certificate or chain"
-- An admitted request is refused with 6 exactly then.
pub request_uncertified : (l : Ledger) (km0 acl req : Bytes) → UncertifiedExactly (request_files km0 acl req) l km0 (acl_of acl) (request_of req) (request l km0 acl req)
request_uncertified = Uncertified.request_uncertified

-- The same for a narrowing.
pub narrow_uncertified : (l : Ledger) (km0 acl req new hints : Bytes) → UncertifiedExactly (narrow_files km0 acl req new hints) l km0 (acl_of acl) (request_of req) (narrow l km0 acl req new hints)
narrow_uncertified = Uncertified.narrow_uncertified

-- The same for an expansion.
pub expand_uncertified : (l : Ledger) (km0 acl req new : Bytes) → UncertifiedExactly (expand_files km0 acl req new) l km0 (acl_of acl) (request_of req) (expand l km0 acl req new)
expand_uncertified = Uncertified.expand_uncertified

-- "loops and repeated records do no harm"
-- The order of what a request presents does not matter, nor how often it presents it.
pub request_same : (l : Ledger) (km0 acl req req' : Bytes) (h : PresentsSame (request_of req) (request_of req')) → request_files km0 acl req ≡ none → request_files km0 acl req' ≡ none → request l km0 acl req ≡ request l km0 acl req'
request_same = Loops.request_same

-- The same for a narrowing.
pub narrow_same : (l : Ledger) (km0 acl req req' : Bytes) (h : PresentsSame (request_of req) (request_of req')) (new hints : Bytes) → narrow_files km0 acl req new hints ≡ none → narrow_files km0 acl req' new hints ≡ none
    → narrow l km0 acl req new hints ≡ narrow l km0 acl req' new hints
narrow_same = Loops.narrow_same

-- The same for an expansion.
pub expand_same : (l : Ledger) (km0 acl req req' : Bytes) (h : PresentsSame (request_of req) (request_of req')) (new : Bytes) → expand_files km0 acl req new ≡ none → expand_files km0 acl req' new ≡ none → expand l km0 acl req new ≡ expand l km0 acl req' new
expand_same = Loops.expand_same

-- Presenting more takes no certification away.
pub certified_more : (q r : Request) (h : PresentsMore q r) (g : Group) → certified q g ≡ true → certified r g ≡ true
certified_more = Loops.certified_more

-- A chain that visits a key twice can be replaced by a part of it that does not.
pub chain_straight : (p : ℕ) (cs : List Certificate) (ds : List Delegation) (k : Bytes) (m : Option ℕ) → ChainPresents p cs ds k m
    → Presents cs k m ⊎ ((h : Bytes) × (c : Chain p ds k h) × Straight k c.links × Presents cs h m)
chain_straight = Loops.chain_straight

-- Request g.

-- "Facts about the tables should be stated over their sizes, once."
-- Every call keeps the sizes of the tables, whatever they are.
pub sized_under : (z : Capacity) (s : State) (c : Call) → SizedUnder z s.ledger → SizedUnder z (outcome_under z s c).ledger
sized_under = Tables.sized_under

-- An ACL without fault under some sizes fits tables of these sizes.
pub acl_fits_under : (z : Capacity) (file : Bytes) → acl_file_fault_under z file ≡ none → AclFitsUnder z (acl_of file)
acl_fits_under = CarriedOver.acl_fits_under

-- At today's sizes, the gate over its sizes is the gate.
pub today_outcome : (s : State) (c : Call) → outcome_under today s c ≡ outcome s c
today_outcome = Larger.today_outcome

-- The reader of listings over its sizes is the reader.
pub today_listing : (text : Bytes) → read_listing_under today text ≡ read_listing text
today_listing = OldListings.today_listing

-- "Files accepted before must be read unchanged."
-- An ACL without fault has none under larger sizes.
pub reader_grows : (small large : Capacity) → NoSmaller small large → (file : Bytes) → acl_file_fault_under small file ≡ none → acl_file_fault_under large file ≡ none
reader_grows = Larger.reader_grows

-- An ACL accepted under document 01's sizes is accepted today.
pub accepted_before : (file : Bytes) → acl_file_fault_under base file ≡ none → acl_file_fault file ≡ none
accepted_before = Larger.accepted_before

-- So is a hints file.
pub hints_before : (file : Bytes) → file_fault base.groups hints_fault file ≡ none → hints_file_fault file ≡ none
hints_before = Larger.hints_before

-- On a ledger carried over, a gate with larger tables gives the answer of the smaller one, and its ledger carried over.
pub unchanged_under : (small large : Capacity) → NoSmaller small large → (s : State) (c : Call) → SizedUnder small s.ledger → AcceptedUnder small s.acl c
    → outcome_under large (state_carried_over small large s) c ≡ outcome_carried_over small large (outcome_under small s c)
unchanged_under = CarriedOver.unchanged_under

-- Today's gate answers as that of document 01's sizes.
pub read_unchanged : (s : State) (c : Call) → SizedUnder base s.ledger → AcceptedUnder base s.acl c
    → outcome (state_carried_over base today s) c ≡ outcome_carried_over base today (outcome_under base s c)
read_unchanged = CarriedOver.read_unchanged

-- The same for a sequence of calls.
pub all_unchanged : (s : State) (cs : List Call) → SizedUnder base s.ledger → AllAcceptedUnder base s cs
    → (replies (state_carried_over base today s) cs ≡ replies_under base s cs)
    × (after_all (state_carried_over base today s) cs ≡ state_carried_over base today (after_all_under base s cs))
all_unchanged = CarriedOver.all_unchanged

-- A listing accepted under some sizes is read to the same bytes under larger ones.
pub listing_under : (small large : Capacity) → NoSmaller small large → (text file : Bytes) → read_listing_under small text ≡ read_as file → read_listing_under large text ≡ read_as file
listing_under = OldListings.listing_under

-- A listing accepted under document 01's sizes is read to the same bytes today.
pub listing_unchanged : (text file : Bytes) → read_listing_under base text ≡ read_as file → read_listing text ≡ read_as file
listing_unchanged = OldListings.listing_unchanged

-- Request h.

-- "A slot answers and is charged as the gate would with its counts, times and the shared table."
-- Answer, counts, times and counters are the gate's.
pub as_the_gate : (c : Cabinet) (x : CabinetCall) (k : ℕ) → length c.slots ≡ slots_max → slot_in x ≡ some k → k < slots_max
    → ((cabinet_outcome c x).answer ≡ (gate_outcome (ledger_at c k) x).answer)
    × (ledger_at (cabinet_after c x) k ≡ (gate_outcome (ledger_at c k) x).ledger)
as_the_gate = Slots.as_the_gate

-- A refused call leaves the cabinet as it was.
pub demand_1_cabinet : (c : Cabinet) (x : CabinetCall) (n : ℕ) (near : Option ℕ) → (cabinet_outcome c x).answer ≡ refuse n near → cabinet_after c x ≡ c
demand_1_cabinet = Slots.demand_1_cabinet

-- The numbers of refusals are the gate's, and 13 for a call that has a slot.
pub cabinet_number : (c : Cabinet) (x : CabinetCall) (n : ℕ) (near : Option ℕ) → (cabinet_outcome c x).answer ≡ refuse n near → Numbered (cabinet_numbers x) n near
cabinet_number = Slots.cabinet_number

-- A sequence of calls keeps the sizes of the tables.
pub cabinet_sized_all : (c : Cabinet) (xs : List CabinetCall) → CabinetSized c → CabinetSized (cabinet_after_all c xs)
cabinet_sized_all = CabinetTables.cabinet_sized_all

-- After it the counts still fit 32 bits.
pub cabinet_bounded_all : (c : Cabinet) (xs : List CabinetCall) → CabinetBounded c → CabinetBounded (cabinet_after_all c xs)
cabinet_bounded_all = CabinetTables.cabinet_bounded_all

-- "Slot numbers over 7 get a new refusal, 13, first of all."
-- A call is refused with 13 exactly if its slot is over 7.
pub thirteen : (c : Cabinet) (x : CabinetCall) (k : ℕ) → slot_in x ≡ some k → ((cabinet_outcome c x).answer ≡ refuse no_slot none) ↔ (slots_max ≤ k)
thirteen = Slots.thirteen

-- "A request, load or replacement changes no other slot's counts or times; a clear takes no slot and affects every slot naming the counter."
-- A call to one slot leaves the counts and times of every other as they were.
pub others_stand : (c : Cabinet) (x : CabinetCall) (other : ℕ) → is_slot other (slot_in x) ≡ false → slot_at (cabinet_after c x) other ≡ slot_at c other
others_stand = Slots.others_stand

-- A clear changes no slot's counts or times.
pub clear_slots : (c : Cabinet) (counter : ℕ) → (cabinet_after c (clearing_all counter)).slots ≡ c.slots
clear_slots = Slots.clear_slots

-- It leaves each slot's ledger as the gate's clear does.
pub clears_everywhere : (c : Cabinet) (counter k : ℕ)
    → ((cabinet_outcome c (clearing_all counter)).answer ≡ (clear (ledger_at c k) counter).answer)
    × (ledger_at (cabinet_after c (clearing_all counter)) k ≡ (clear (ledger_at c k) counter).ledger)
clears_everywhere = Slots.clears_everywhere

-- "The counter sentence of demand 2 now counts permits over all slots, from a fresh cabinet."
-- From a fresh cabinet: a counter reads the permits, in any slot, charged to groups that then named it, since it was last cleared.
pub counters_count_all : (calls : List CabinetCall) (counter : ℕ) → counter < counters_max
    → get_or (cabinet_after_all fresh_cabinet calls).counters counter 0 ≡ cabinet_tally counter fresh_cabinet 0 calls
counters_count_all = SharedCounters.counters_count_all

-- The same with runs among the calls.
pub counters_count_all_steps : (steps : List CabinetStep) (counter : ℕ) → counter < counters_max
    → get_or (cabinet_after_steps fresh_cabinet steps).counters counter 0 ≡ cabinet_tally counter fresh_cabinet 0 (cabinet_calls_in steps)
counters_count_all_steps = CabinetRuns.counters_count_all_steps

-- "Let two runs make a slot's calls in the same order, from equal counts and times, with all equal that these are given (ACL and KM0 too) and, just
-- before each, the counters its lent ACL names: whatever stands between, the slot answers the same."
-- Its counts and times after each call are the same, too. An ACL with a fault names no counter.
pub isolation : (slot : ℕ) (c d : Cabinet) (xs ys : List CabinetCall) → length c.slots ≡ slots_max → length d.slots ≡ slots_max
    → slot_at c slot ≡ slot_at d slot
    → calls_to slot xs ≡ calls_to slot ys
    → map readings_before (turns slot c xs) ≡ map readings_before (turns slot d ys)
    → (map (λ t. t.answer) (turns slot c xs) ≡ map (λ t. t.answer) (turns slot d ys))
    × (map (λ t. t.slot) (turns slot c xs) ≡ map (λ t. t.slot) (turns slot d ys))
isolation = Isolation.isolation

-- The same with runs among the calls.
pub isolation_steps : (slot : ℕ) (c d : Cabinet) (xs ys : List CabinetStep) → length c.slots ≡ slots_max → length d.slots ≡ slots_max
    → slot_at c slot ≡ slot_at d slot
    → calls_to slot (cabinet_calls_in xs) ≡ calls_to slot (cabinet_calls_in ys)
    → map readings_before (turns slot c (cabinet_calls_in xs)) ≡ map readings_before (turns slot d (cabinet_calls_in ys))
    → (map (λ t. t.answer) (turns slot c (cabinet_calls_in xs)) ≡ map (λ t. t.answer) (turns slot d (cabinet_calls_in ys)))
    × (map (λ t. t.slot) (turns slot c (cabinet_calls_in xs)) ≡ map (λ t. t.slot) (turns slot d (cabinet_calls_in ys)))
isolation_steps = CabinetRuns.isolation_steps

-- The reason: a call's answer, and the counts and times after it, depend on the counters only through those that its lent ACL names.
pub only_named : (s : Slot) (a b : List ℕ) (acl : Bytes) (c : Call)
    → map (λ n. get_or a n 0) (counters_lent acl) ≡ map (λ n. get_or b n 0) (counters_lent acl)
    → Alike (outcome (record { ledger = ledger_with s a; acl = acl }) c) (outcome (record { ledger = ledger_with s b; acl = acl }) c)
only_named = NamedCounters.only_named

-- These are the counters that a limit of one of its groups names.
pub named_groups : (n : ℕ) (gs : List Group) → one_of (counters_in gs) n ≡ any (λ g. names n g.limits) gs
named_groups = NamedCounters.named_groups

-- "Demand 3 holds per slot, for the bundle accepted with that slot's ACL, in every sequence of cabinet calls, whatever the other slots are asked or
-- presented."
-- If each of a slot's calls is lent the ACL in force in that slot and presents nothing of the officer's, what the slot is permitted is within the
-- verdict.
pub demand_3_slot : (bundle acl : Bytes) (verdict : Grade) → desk bundle acl ≡ accepted (approach2 verdict)
    → (cabinet : Cabinet) (slot : ℕ) (calls : List CabinetCall)
    → LentInForce acl (turns slot cabinet calls)
    → Every (Unsigned (records bundle)) (turns slot cabinet calls)
    → Every (PermitAllowed (records bundle) verdict) (turns slot cabinet calls)
demand_3_slot = SlotDemand3.demand_3_slot

-- The same with runs among the calls.
pub demand_3_slot_steps : (bundle acl : Bytes) (verdict : Grade) → desk bundle acl ≡ accepted (approach2 verdict)
    → (cabinet : Cabinet) (slot : ℕ) (steps : List CabinetStep)
    → LentInForce acl (turns slot cabinet (cabinet_calls_in steps))
    → Every (Unsigned (records bundle)) (turns slot cabinet (cabinet_calls_in steps))
    → Every (PermitAllowed (records bundle) verdict) (turns slot cabinet (cabinet_calls_in steps))
demand_3_slot_steps = CabinetRuns.demand_3_slot_steps

-- The premises of isolation and of demand 3 for a slot can be met.
pub cabinet_witness : (desk bundle shared ≡ accepted (approach2 grade))
    × (cabinet_replies fresh_cabinet one_run ≡ (done ∷ permit 0 ∷ permit 0 ∷ permit 0 ∷ refuse 7 (some 0) ∷ done ∷ permit 0 ∷ refuse 13 none ∷ []))
    × (cabinet_replies elsewhere other_run ≡ (done ∷ done ∷ permit 0 ∷ permit 0 ∷ done ∷ permit 0 ∷ refuse 7 (some 0) ∷ done ∷ permit 0 ∷ []))
    × (calls_to 0 one_run ≡ calls_to 0 other_run)
    × (map readings_before (turns 0 fresh_cabinet one_run) ≡ ([] ∷ (0 ∷ []) ∷ (2 ∷ []) ∷ (3 ∷ []) ∷ (0 ∷ []) ∷ []))
    × (map readings_before (turns 0 elsewhere other_run) ≡ ([] ∷ (0 ∷ []) ∷ (2 ∷ []) ∷ (3 ∷ []) ∷ (0 ∷ []) ∷ []))
    × (map (λ x. officer_signed (records bundle) (gate_call x)) one_run ≡ (false ∷ false ∷ true ∷ false ∷ false ∷ false ∷ false ∷ false ∷ []))
cabinet_witness = CabinetWitness.cabinet_witness

-- So the slot answers the same in both runs.
pub witness_isolated : map (λ t. t.answer) (turns 0 fresh_cabinet one_run) ≡ map (λ t. t.answer) (turns 0 elsewhere other_run)
witness_isolated = CabinetWitness.witness_isolated

-- What it is permitted is within the verdict.
pub witness_slot_covered : Every (PermitAllowed (records bundle) grade) (turns 0 fresh_cabinet one_run)
witness_slot_covered = CabinetWitness.witness_slot_covered

-- Request i.

-- "a record of kind 15 directly after a MakeBlob or MakeArchiveBlob action whose new flag 6 says it is present"
-- In an ACL without fault, a record that announces a blobfile is followed by one, which is the action's.
pub file_follows : (acl : Bytes) (sound : acl_fault (records acl) ≡ none) (before : List Bytes) (r : Bytes) (after : List Bytes) (parted : records acl ≡ before ++ (r ∷ after)) (action : IsBlobAction r) → announces_blobfile r ≡ true → (file : Bytes) × (rest : List Bytes) × (after ≡ file ∷ rest) × (blobfile_record file ≡ true) × (blobfile_rule_next after ≡ some (blobfile_rule_of file))
file_follows = Files.file_follows

-- An action that announces none has none.
pub file_absent : (acl : Bytes) (sound : acl_fault (records acl) ≡ none) (before : List Bytes) (r : Bytes) (after : List Bytes) (parted : records acl ≡ before ++ (r ∷ after)) (action : IsBlobAction r) → announces_blobfile r ≡ false → blobfile_rule_next after ≡ none
file_absent = Files.file_absent

-- Request j.

-- "The answers and ledger of a run not refused whole equal those of asking one by one in order; a refusal in the middle changes nothing and the run
-- goes on."
-- A run that is not refused as a whole replies with the number of its requests; its ledger and answers are those of asking the gate one by one, and
-- the bytes past the last answer are unchanged.
pub run_one_by_one : (l : Ledger) (km0 acl : Bytes) (row : List Certificate) (requests buffer : Bytes) → run_fault run_records km0 acl row requests buffer ≡ none
    → let o = asked_in_order (ask_gate km0 acl row) l (records requests) in
    ((run l km0 acl row requests buffer).reply ≡ ran (requests_in requests))
    × ((run l km0 acl row requests buffer).ledger ≡ o.ledger)
    × ((run l km0 acl row requests buffer).buffer ≡ o.answers ++ drop (length o.answers) buffer)
run_one_by_one = Runs.run_one_by_one

-- A refused request leaves the ledger as it was, and the next is asked on it.
pub refusal_goes_on : (km0 acl : Bytes) (row : List Certificate) (l : Ledger) (r : Bytes) (rs : List Bytes) (n : ℕ) (near : Option ℕ) → (ask_gate km0 acl row l r).answer ≡ refuse n near
    → asked_in_order (ask_gate km0 acl row) l (r ∷ rs) ≡ answered_first (refuse n near) (asked_in_order (ask_gate km0 acl row) l rs)
refusal_goes_on = Runs.refusal_goes_on

-- The answers are those of its requests as calls of the gate, or none if it is refused as a whole.
pub run_answers : (s : State) (km0 : Bytes) (row : List Certificate) (requests buffer : Bytes)
    → let answers = answers_to s (calls_by s (running km0 row requests buffer)) in
    (run s.ledger km0 s.acl row requests buffer).buffer ≡ answers ++ drop (length answers) buffer
run_answers = Steps.run_answers

-- Runs among calls leave the state that their requests leave, asked one by one.
pub steps_as_calls : (s : State) (xs : List HostStep) → after_steps s xs ≡ after_all s (calls_in s xs)
steps_as_calls = Steps.steps_as_calls

-- "A malformed request record gets its own answer 2."
-- A record that is no request record is answered 2, without a group.
pub malformed_answered : (most : ℕ) (km0 acl : Bytes) (row : List Certificate) (requests buffer : Bytes) → Every Decoded row → run_fault most km0 acl row requests buffer ≡ none
    → (l : Ledger) (r : Bytes) → length r ≡ record_bytes → stands_alone r ≡ false → ask_gate km0 acl row l r ≡ refused l malformed
malformed_answered = Runs.malformed_answered

-- The numbers that an answer can have.
pub answer_number : (km0 acl : Bytes) (row : List Certificate) (l : Ledger) (r : Bytes) → RefusalIn request_numbers (ask_gate km0 acl row l r)
answer_number = RunNumbers.answer_number

-- "Before any request is judged, and with the buffer untouched:"
-- A run that is refused as a whole leaves ledger and buffer as they were.
pub run_refused_lem : (l : Ledger) (km0 acl : Bytes) (row : List Certificate) (requests buffer : Bytes) (n : ℕ) → (run l km0 acl row requests buffer).reply ≡ refused_whole n
    → ((run l km0 acl row requests buffer).ledger ≡ l) × ((run l km0 acl row requests buffer).buffer ≡ buffer)
run_refused_lem = Runs.run_refused_lem

-- Its number is 1, 2, 3, 9 or 12.
pub run_number : (l : Ledger) (km0 acl : Bytes) (row : List Certificate) (requests buffer : Bytes) (n : ℕ) → (run l km0 acl row requests buffer).reply ≡ refused_whole n → one_of run_numbers n ≡ true
run_number = RunNumbers.run_number

-- Request k.

-- "for each permission exactly the groups with an action that sets its bit, for each blob kind exactly those with an action for it, and nothing more"
-- Group i is in the set of permission p exactly if it has an action that sets bit p.
pub uses_exact : (acl : Bytes) (f : Form) → prepare acl ≡ prepared f
    → (p i : ℕ) → p < permissions_max → bit i (get_or f.uses p 0) ≡ holds_at (λ g. any (admits_use p) g.actions) (get_elem? (acl_of acl) i)
uses_exact = Prepared.uses_exact

-- Group i is in the set of working blobs exactly if it has a MakeBlob action.
pub working_exact : (acl : Bytes) (f : Form) → prepare acl ≡ prepared f → (i : ℕ) → bit i f.working ≡ holds_at (λ g. any is_blob_action g.actions) (get_elem? (acl_of acl) i)
working_exact = Prepared.working_exact

-- Group i is in the set of recovery blobs exactly if it has a MakeArchiveBlob action.
pub recovery_exact : (acl : Bytes) (f : Form) → prepare acl ≡ prepared f → (i : ℕ) → bit i f.recovery ≡ holds_at (λ g. any is_archive g.actions) (get_elem? (acl_of acl) i)
recovery_exact = Prepared.recovery_exact

-- A form has sixteen sets of uses, and no set names a group over 63.
pub form_fits : (acl : Bytes) (f : Form) → prepare acl ≡ prepared f → (length f.uses ≡ permissions_max) × Every (λ n. n < 2 ^ set_bits) f.uses × (f.working < 2 ^ set_bits) × (f.recovery < 2 ^ set_bits)
form_fits = Prepared.form_fits

-- An ACL that is not prepared is refused with 1, 2, 3 or 12.
pub prepare_number : (acl : Bytes) (n : ℕ) → prepare acl ≡ unprepared n → one_of file_numbers n ≡ true
prepare_number = RunNumbers.prepare_number

-- "On every ledger and run not refused whole, answers and ledger equal those of asking it one by one in order."
-- Reply, ledger and buffer of a run on a prepared ACL, as for a run.
pub prepared_run_lem : (l : Ledger) (km0 acl : Bytes) (row : List Certificate) (f : Form) (requests buffer : Bytes) → prepared_fault km0 acl row f requests buffer ≡ none
    → let o = asked_in_order (ask_gate km0 acl row) l (records requests) in
    ((prepared_run l km0 acl row f requests buffer).reply ≡ ran (requests_in requests))
    × ((prepared_run l km0 acl row f requests buffer).ledger ≡ o.ledger)
    × ((prepared_run l km0 acl row f requests buffer).buffer ≡ o.answers ++ drop (length o.answers) buffer)
prepared_run_lem = Prepared.prepared_run_lem

-- Where request j's run is not refused either, both have the same outcome.
pub prepared_plain : (l : Ledger) (km0 acl : Bytes) (row : List Certificate) (f : Form) (requests buffer : Bytes)
    → run_fault run_records km0 acl row requests buffer ≡ none → prepared_fault km0 acl row f requests buffer ≡ none
    → prepared_run l km0 acl row f requests buffer ≡ run l km0 acl row requests buffer
prepared_plain = Prepared.prepared_plain

-- The answers are those of its requests as calls of the gate, or none if it is refused as a whole.
pub prepared_answers : (s : State) (km0 : Bytes) (row : List Certificate) (f : Form) (requests buffer : Bytes)
    → let answers = answers_to s (calls_by s (running_prepared km0 row f requests buffer)) in
    (prepared_run s.ledger km0 s.acl row f requests buffer).buffer ≡ answers ++ drop (length answers) buffer
prepared_answers = Steps.prepared_answers

-- "a prepared form that differs from the one made of the lent ACL is refused with 14, buffer untouched"
-- A run that is refused as a whole leaves ledger and buffer as they were.
pub prepared_refused : (l : Ledger) (km0 acl : Bytes) (row : List Certificate) (f : Form) (requests buffer : Bytes) (n : ℕ) → (prepared_run l km0 acl row f requests buffer).reply ≡ refused_whole n
    → ((prepared_run l km0 acl row f requests buffer).ledger ≡ l) × ((prepared_run l km0 acl row f requests buffer).buffer ≡ buffer)
prepared_refused = Runs.prepared_refused

-- Its number is 1, 2, 3, 9, 12 or 14.
pub prepared_number : (l : Ledger) (km0 acl : Bytes) (row : List Certificate) (f : Form) (requests buffer : Bytes) (n : ℕ) → (prepared_run l km0 acl row f requests buffer).reply ≡ refused_whole n
    → one_of prepared_numbers n ≡ true
prepared_number = RunNumbers.prepared_number

-- Requests h, j and k together: runs in a slot.

-- "A slot answers and is charged as the gate would"
-- A run in a slot is the slot's requests one by one.
pub slot_run : (slot : ℕ) (km0 acl : Bytes) (row : List Certificate) (h : slot < slots_max) (c : Cabinet) (requests buffer : Bytes) → length c.slots ≡ slots_max → run_fault run_records km0 acl row requests buffer ≡ none
    → cabinet_run c slot km0 acl row requests buffer
    ≡ record { reply = ran (requests_in requests); cabinet = cabinet_after_all c (cabinet_requests_of slot km0 acl row requests); buffer = cabinet_answers c (cabinet_requests_of slot km0 acl row requests) ++ drop (length (cabinet_answers c (cabinet_requests_of slot km0 acl row requests))) buffer }
slot_run = CabinetRuns.slot_run

-- The same on a prepared ACL.
pub slot_prepared_run : (slot : ℕ) (km0 acl : Bytes) (row : List Certificate) (h : slot < slots_max) (c : Cabinet) (f : Form) (requests buffer : Bytes) → length c.slots ≡ slots_max → prepared_fault km0 acl row f requests buffer ≡ none
    → cabinet_prepared_run c slot km0 acl row f requests buffer
    ≡ record { reply = ran (requests_in requests); cabinet = cabinet_after_all c (cabinet_requests_of slot km0 acl row requests); buffer = cabinet_answers c (cabinet_requests_of slot km0 acl row requests) ++ drop (length (cabinet_answers c (cabinet_requests_of slot km0 acl row requests))) buffer }
slot_prepared_run = CabinetRuns.slot_prepared_run

-- A slot over 7 gives 13; cabinet and buffer are unchanged.
pub slot_run_13 : (c : Cabinet) (slot : ℕ) (km0 acl : Bytes) (row : List Certificate) (requests buffer : Bytes) → slots_max ≤ slot → cabinet_run c slot km0 acl row requests buffer ≡ record { reply = refused_whole no_slot; cabinet = c; buffer = buffer }
slot_run_13 = CabinetRuns.slot_run_13

-- The same on a prepared ACL.
pub slot_prepared_13 : (c : Cabinet) (slot : ℕ) (km0 acl : Bytes) (row : List Certificate) (requests buffer : Bytes) (f : Form) → slots_max ≤ slot → cabinet_prepared_run c slot km0 acl row f requests buffer ≡ record { reply = refused_whole no_slot; cabinet = c; buffer = buffer }
slot_prepared_13 = CabinetRuns.slot_prepared_13

-- A run that is refused as a whole leaves cabinet and buffer as they were.
pub slot_run_refused : (c : Cabinet) (slot : ℕ) (km0 acl : Bytes) (row : List Certificate) (requests buffer : Bytes) (n : ℕ) → (cabinet_run c slot km0 acl row requests buffer).reply ≡ refused_whole n
    → ((cabinet_run c slot km0 acl row requests buffer).cabinet ≡ c) × ((cabinet_run c slot km0 acl row requests buffer).buffer ≡ buffer)
slot_run_refused = CabinetRuns.slot_run_refused

-- The same on a prepared ACL.
pub slot_prepared_refused : (c : Cabinet) (slot : ℕ) (km0 acl : Bytes) (row : List Certificate) (requests buffer : Bytes) (f : Form) (n : ℕ) → (cabinet_prepared_run c slot km0 acl row f requests buffer).reply ≡ refused_whole n
    → ((cabinet_prepared_run c slot km0 acl row f requests buffer).cabinet ≡ c) × ((cabinet_prepared_run c slot km0 acl row f requests buffer).buffer ≡ buffer)
slot_prepared_refused = CabinetRuns.slot_prepared_refused

-- No other slot changes.
pub slot_run_others : (c : Cabinet) (slot : ℕ) (km0 acl : Bytes) (row : List Certificate) (requests buffer : Bytes) (other : ℕ) → eqb slot other ≡ false → slot_at (cabinet_run c slot km0 acl row requests buffer).cabinet other ≡ slot_at c other
slot_run_others = CabinetRuns.slot_run_others

-- The same on a prepared ACL.
pub slot_prepared_others : (c : Cabinet) (slot : ℕ) (km0 acl : Bytes) (row : List Certificate) (requests buffer : Bytes) (f : Form) (other : ℕ) → eqb slot other ≡ false → slot_at (cabinet_prepared_run c slot km0 acl row f requests buffer).cabinet other ≡ slot_at c other
slot_prepared_others = CabinetRuns.slot_prepared_others

-- Runs among cabinet calls leave the cabinet that their requests leave, asked one by one.
pub cabinet_steps_as_calls : (c : Cabinet) (xs : List CabinetStep) → length c.slots ≡ slots_max → cabinet_after_steps c xs ≡ cabinet_after_all c (cabinet_calls_in xs)
cabinet_steps_as_calls = CabinetRuns.cabinet_steps_as_calls

-- Request l.

-- "drop every permission bit that fails ACLV3 and every blob action, with its kind 15 record, that fails a WB or RB step; keep all else, an
-- OpPermissions action left with no bit too"
-- Every group is kept with its certifier, mechanism and limits; each action is kept, has lost the bits that fail ACLV3, or is a blob action that
-- failed a step; the hints name the old places.
pub trimmed_exactly : (b : List Bytes) (acl : Bytes) (fit : fits acl_records acl ≡ true) (sound : acl_fault (records acl) ≡ none) → GroupsTrimmed b 0 (acl_of acl) (acl_of (trimmed_acl b acl)) (hints_of (trim_hints b acl))
trimmed_exactly = Trim.trimmed_exactly

-- "The result is a narrowing of the old ACL, fails none of those steps, and every action it removed failed one."
-- The trimmed ACL has no fault.
pub trimmed_read : (b : List Bytes) (acl : Bytes) (fit : fits acl_records acl ≡ true) (sound : acl_fault (records acl) ≡ none) → acl_file_fault (trimmed_acl b acl) ≡ none
trimmed_read = Trim.trimmed_read

-- Its hints have none.
pub hints_read : (b : List Bytes) (acl : Bytes) (fit : fits acl_records acl ≡ true) (sound : acl_fault (records acl) ≡ none) → hints_file_fault (trim_hints b acl) ≡ none
hints_read = Trim.hints_read

-- The hints show that the trimmed ACL narrows the old one.
pub trimmed_narrows : (b : List Bytes) (acl : Bytes) (fit : fits acl_records acl ≡ true) (sound : acl_fault (records acl) ≡ none) → narrows (acl_of acl) (acl_of (trimmed_acl b acl)) (hints_of (trim_hints b acl)) ≡ true
trimmed_narrows = Trim.trimmed_narrows

-- Wherever a group grants a use of ReduceACL, the gate permits the narrowing to the trimmed ACL.
pub gate_accepts : (b : List Bytes) (acl : Bytes) (fit : fits acl_records acl ≡ true) (sound : acl_fault (records acl) ≡ none) (l : Ledger) (km0 req : Bytes) (k : ℕ) (g : Group)
    → Permitted (first_fault (unless (lengths_fit km0 acl req) bad_length ∷ request_fault (use_of reduce_acl) (records req) ∷ [])) l km0 (acl_of acl) (request_of req) k g
    → (narrow l km0 acl req (trimmed_acl b acl) (trim_hints b acl)).answer ≡ permit k
gate_accepts = Trim.gate_accepts

-- Wherever the gate permits any narrowing with this request, it permits that one.
pub gate_takes : (b : List Bytes) (acl : Bytes) (fit : fits acl_records acl ≡ true) (sound : acl_fault (records acl) ≡ none) (l : Ledger) (km0 req new hints : Bytes) (k : ℕ) → (narrow l km0 acl req new hints).answer ≡ permit k
    → (narrow l km0 acl req (trimmed_acl b acl) (trim_hints b acl)).answer ≡ permit k
gate_takes = Trim.gate_takes

-- The trimmed ACL fails none of ACLV3, WB and RB.
pub trimmed_fails_none : (b : List Bytes) (acl : Bytes) (fit : fits acl_records acl ≡ true) (sound : acl_fault (records acl) ≡ none) → acl_failure b (acl_of (trimmed_acl b acl)) ≡ none
trimmed_fails_none = Trim.trimmed_fails_none

-- The results are bytes, if the ACL is.
pub results_octets : (b : List Bytes) (acl : Bytes) (fit : fits acl_records acl ≡ true) (sound : acl_fault (records acl) ≡ none) → Octets acl → Octets (trimmed_acl b acl) × Octets (trim_hints b acl)
results_octets = Trim.results_octets

-- "An ACL that fails none comes back byte for byte."
-- An ACL that fails none of them is returned as it is.
pub passing_unchanged : (b : List Bytes) (acl : Bytes) (fit : fits acl_records acl ≡ true) (sound : acl_fault (records acl) ≡ none) → acl_failure b (acl_of acl) ≡ none → trimmed_acl b acl ≡ acl
passing_unchanged = Trim.passing_unchanged

-- "The tool judges by approach 2 whatever the policy names. Refusals and failing steps before the ACL are reported as the desk reports them, KV3 and
-- CSRL1 are not judged."
-- If the steps before the ACL pass and both buffers have room, the reply is both lengths, whatever the policy's approach, KV3 and CSRL1 are.
pub trims : (bundle acl aclBuffer hintBuffer : Bytes) → desk_fault bundle acl ≡ none → before_acl (records bundle) ≡ none → roomy bundle acl aclBuffer hintBuffer ≡ true
    → trim_reply bundle acl aclBuffer hintBuffer ≡ trimmed (length (trimmed_acl (records bundle) acl)) (length (trim_hints (records bundle) acl))
trims = Trim.trims

-- A refusal is the desk's.
pub refused_as_desk : (bundle acl aclBuffer hintBuffer : Bytes) (f : ℕ) → desk_fault bundle acl ≡ some f → (trim_reply bundle acl aclBuffer hintBuffer ≡ unread f) × (desk bundle acl ≡ faulty f)
refused_as_desk = Trim.refused_as_desk

-- A step that fails before the ACL is the desk's, if the policy names approach 2.
pub fails_as_desk : (bundle acl aclBuffer hintBuffer : Bytes) (s : Step) → desk_fault bundle acl ≡ none → before_acl (records bundle) ≡ some s
    → (trim_reply bundle acl aclBuffer hintBuffer ≡ untrimmed s) × (eqb (policy_of (records bundle)).approach 2 ≡ true → desk bundle acl ≡ failed s)
fails_as_desk = Trim.fails_as_desk

-- Of the desk's steps, only one before the ACL, KV3 or CSRL1 can fail on the trimmed ACL.
pub trimmed_attested : (b : List Bytes) (acl : Bytes) (fit : fits acl_records acl ≡ true) (sound : acl_fault (records acl) ≡ none) → before_acl b ≡ none → full_failure b (acl_of (trimmed_acl b acl)) ≡ after_acl b (acl_of (trimmed_acl b acl))
trimmed_attested = Trim.trimmed_attested

-- "If either buffer is short the answer is 9; on any of these both stay untouched, otherwise the reply is both lengths and bytes past the results
-- stay."
-- A short buffer is refused with 9.
pub short_refused : (bundle acl aclBuffer hintBuffer : Bytes) → desk_fault bundle acl ≡ none → before_acl (records bundle) ≡ none → roomy bundle acl aclBuffer hintBuffer ≡ false → trim_reply bundle acl aclBuffer hintBuffer ≡ unread short_buffer
short_refused = Trim.short_refused

-- Without both lengths as the reply, both buffers are as they were.
pub buffers_stand : (bundle acl aclBuffer hintBuffer : Bytes) → ((n m : ℕ) → trim_reply bundle acl aclBuffer hintBuffer ≡ trimmed n m → ⊥)
    → (trim_acl_buffer bundle acl aclBuffer hintBuffer ≡ aclBuffer) × (trim_hint_buffer bundle acl aclBuffer hintBuffer ≡ hintBuffer)
buffers_stand = Trim.buffers_stand

-- Both results are at the front of their buffers, and the bytes past them are unchanged.
pub both_written : (bundle acl aclBuffer hintBuffer : Bytes) → trim_fault bundle acl aclBuffer hintBuffer ≡ none
    → (trim_reply bundle acl aclBuffer hintBuffer ≡ trimmed (length (trimmed_acl (records bundle) acl)) (length (trim_hints (records bundle) acl)))
    × (trim_acl_buffer bundle acl aclBuffer hintBuffer ≡ trimmed_acl (records bundle) acl ++ drop (length (trimmed_acl (records bundle) acl)) aclBuffer)
    × (trim_hint_buffer bundle acl aclBuffer hintBuffer ≡ trim_hints (records bundle) acl ++ drop (length (trim_hints (records bundle) acl)) hintBuffer)
both_written = Trim.both_written

-- All of this in one record, where the reply is both lengths.
pub trim_result : (bundle acl aclBuffer hintBuffer : Bytes) (m n : ℕ) → trim_reply bundle acl aclBuffer hintBuffer ≡ trimmed m n → Trimmed bundle acl aclBuffer hintBuffer m n
trim_result = Trim.trim_result

-- Request m.

-- "Each permitted request can be put down to a group of the first ACL that admits it, is certified by what was presented, and is unspent under an
-- account that starts from the readings at that load, obeys the same clears and reloads, and counts only those attributed permits."
-- From a load on, if no expansion is permitted: each permit is put down to such a group.
pub narrowing_never_buys_uses : (ledger : Ledger) (time : ℕ) (acl : Bytes) (calls : List Call)
    → let start : State = record { ledger = (load ledger time).ledger; acl = acl } in
    EveryPermit (λ s c. is_expansion c ≡ false) start calls → AllPutDown (acl_of acl) (load ledger time).ledger start calls
narrowing_never_buys_uses = Uses.narrowing_never_buys_uses

-- No expansion is permitted where none is asked for.
pub no_expansion : (s : State) (calls : List Call) → Every (λ c. is_expansion c ≡ false) calls → EveryPermit (λ s c. is_expansion c ≡ false) s calls
no_expansion = Uses.no_expansion

-- The same with runs among the calls.
pub never_buys_uses_steps : (ledger : Ledger) (time : ℕ) (acl : Bytes) (steps : List HostStep)
    → let start : State = record { ledger = (load ledger time).ledger; acl = acl } in
    EveryPermit (λ s c. is_expansion c ≡ false) start (calls_in start steps) → AllPutDown (acl_of acl) (load ledger time).ledger start (calls_in start steps)
never_buys_uses_steps = Steps.never_buys_uses_steps

-- The premises can be met: three uses per load, a narrowing, a reload.
pub narrowed_witness : (replies loaded narrowed ≡ (permit 0 ∷ permit 0 ∷ permit 0 ∷ refuse 7 (some 0) ∷ done ∷ permit 0 ∷ []))
    × EveryPermit (λ s c. is_expansion c ≡ false) loaded narrowed
    × AllPutDown (acl_of three) (loaded_at fresh_ledger 5) loaded narrowed
narrowed_witness = Witness.narrowed_witness

-- The same with a named counter, a clear, a stored blob and a chain of delegations.
pub presented_witness : (replies stocked presenting ≡ (permit 0 ∷ permit 0 ∷ refuse 7 (some 0) ∷ done ∷ permit 0 ∷ permit 1 ∷ []))
    × EveryPermit (λ s c. is_expansion c ≡ false) stocked presenting
    × AllPutDown (acl_of storing) (loaded_at fresh_ledger 5) stocked presenting
presented_witness = Witness.presented_witness

-- Request n.

-- "Just after a load, with all certifiers presented at the mechanisms named, and at most 32 such certificates, some blob request of exactly that
-- protection is permitted."
-- Under these premises, with any certificates that present all certifiers.
pub grade_reached : (bundle acl : Bytes) (verdict : Grade) (km0 : Bytes) (ledger : Ledger) (loaded time : ℕ) (certificates : List Certificate)
    → GradePremises bundle acl verdict km0 loaded time certificates → AllPresented acl certificates
    → BlobPermitted bundle acl km0 (loaded_at ledger loaded) time verdict.protection certificates
grade_reached = Cautious.grade_reached

-- With the certificates made from the ACL's groups; the request's file is bytes.
pub grade_reached_exhibited : (bundle acl : Bytes) (verdict : Grade) (km0 : Bytes) (ledger : Ledger) (loaded time : ℕ)
    → GradePremises bundle acl verdict km0 loaded time (certificates_for (acl_of acl))
    → (p : BlobPermitted bundle acl km0 (loaded_at ledger loaded) time verdict.protection (certificates_for (acl_of acl)))
    × (Octets acl → time < 256 ^ 8 → Octets (blob_request_file p.blob time (certificates_for (acl_of acl))))
grade_reached_exhibited = Cautious.grade_reached_exhibited

-- The premises can be met for protection 3.
pub reached_witness : BlobPermitted bundle kept (hash 6) (loaded_at fresh_ledger 7) 9 3 (certificates_for (acl_of kept))
reached_witness = Witness.reached_witness

-- The same with the request's bytes and the gate's answer computed.
pub reached_computed : (certificates_for (acl_of kept) ≡ record { hash = hash 9; mechanism = 1 } ∷ [])
    × (blob_request_file kept_blob 9 (certificates_for (acl_of kept)) ≡ kept_request)
    × ((request (loaded_at fresh_ledger 7) (hash 6) kept kept_request).answer ≡ permit 0)
    × (blob_protection (records bundle) kept_blob ≡ 3)
reached_computed = Witness.reached_computed

-- They can be met for protection 1.
pub reached_direct : BlobPermitted bundle (open_group ++ blob 7 (hash 0) []) (hash 0) (loaded_at fresh_ledger 7) 9 1 []
reached_direct = Witness.reached_direct

-- They can be met for protection 2.
pub reached_softcard : BlobPermitted bundle soft (hash 0) (loaded_at fresh_ledger 7) 9 2 []
reached_softcard = Witness.reached_softcard
