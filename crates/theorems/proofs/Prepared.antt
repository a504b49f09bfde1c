-- Prepared ACLs: the form is exact, and a run on it has the answers and the ledger of asking the gate one by one in order. Two wrong products that this rules out:
-- one whose prepared form misses a group, and one that takes another ACL's form.
use Prim.Native.Nat.{ℕ, zero, suc, ◌^◌, ◌<◌}
use native.Mathlib.Nat.{lt_of_lt_of_le}
use mathlib.Core.Path.{◌≡◌, refl, ◌∙◌, ap}
use mathlib.Core.List.{List, ◌++◌}
use mathlib.Core.Option.{Option, none, some}
use mathlib.Core.Bool.{Bool}
use lib.ListN.{length, get_or, get_elem?, drop}
use lib.Pow.{pow_mono}
use Rattle.rules.specs.Sizes.{permissions_max, set_bits, run_records}
use Rattle.rules.specs.Basics.{Bytes, any, Every, bit, set_of, records, file_fault, holds_at}
use Rattle.rules.specs.Acl.{Group, acl_of, acl_fault, acl_file_fault}
use Rattle.rules.specs.Request.{Certificate}
use Rattle.rules.specs.Ledger.{Ledger}
use Rattle.rules.specs.Grant.{admits_use}
use Rattle.rules.specs.Runs.{ask_gate, asked_in_order, requests_in, run_fault, ran, run}
use Rattle.rules.specs.Desk.{is_archive}
use Rattle.rules.specs.Prepared.{is_blob_action, Form, use_sets, form_of, prepared, preparation_unless, prepare, prepared_fault, prepared_run}
use Rattle.rules.proofs.Laws.{never, fault_none_every}
use Rattle.rules.proofs.Sets.{set_bits_lem}
use Rattle.rules.proofs.GroupSets.{set_exact}
use Rattle.rules.proofs.Forms.{form_use}
use Rattle.rules.proofs.AclSizes.{acl_fits}

-- the records of an ACL file without fault have none
file_records : (acl : Bytes) → acl_file_fault acl ≡ none → acl_fault (records acl) ≡ none
unfolding file_fault
file_records acl e = (fault_none_every _ e).1.0

-- the sets of uses
sets_many : (gs : List Group) (from n : ℕ) → length (use_sets gs from n) ≡ n
unfolding use_sets
sets_many gs from zero = refl
sets_many gs from (suc n) = ap suc (sets_many gs (suc from) n)

sets_fit : (gs : List Group) → ((test : Group → Bool) → set_of test gs < 2 ^ set_bits) → (from n : ℕ) → Every (λ (x : ℕ). x < 2 ^ set_bits) (use_sets gs from n)
unfolding use_sets
sets_fit gs fit from zero = tt
sets_fit gs fit from (suc n) = (fit (λ g. any (admits_use from) g.actions), sets_fit gs fit (suc from) n)

-- a form is made of the groups of an ACL without fault
pub prepared_is : (acl : Bytes) (f : Form) → prepare acl ≡ prepared f → (acl_file_fault acl ≡ none) × (f ≡ form_of (acl_of acl))
unfolding prepare
prepared_is acl f e = pick (acl_file_fault acl) refl e
  where
    pick : (o : Option ℕ) → acl_file_fault acl ≡ o → preparation_unless o (form_of (acl_of acl)) ≡ prepared f → (acl_file_fault acl ≡ none) × (f ≡ form_of (acl_of acl))
    pick none d e = (d, cc)
    pick (some n) d e = absurd (never (cc))

-- "for each permission exactly the groups with an action that sets its bit": group i is in the set of permission p exactly if it has such an action
pub uses_exact : (acl : Bytes) (f : Form) → prepare acl ≡ prepared f
    → (p i : ℕ) → p < permissions_max → bit i (get_or f.uses p 0) ≡ holds_at (λ g. any (admits_use p) g.actions) (get_elem? (acl_of acl) i)
uses_exact acl f e p i h =
    ap (λ (x : Form). bit i (get_or x.uses p 0)) (prepared_is acl f e).1 ∙ ap (bit i) (form_use (acl_of acl) p h) ∙ set_exact (λ g. any (admits_use p) g.actions) (acl_of acl) i

-- "for each blob kind exactly those with an action for it": of working blobs
pub working_exact : (acl : Bytes) (f : Form) → prepare acl ≡ prepared f → (i : ℕ) → bit i f.working ≡ holds_at (λ g. any is_blob_action g.actions) (get_elem? (acl_of acl) i)
unfolding form_of
working_exact acl f e i = ap (λ (x : Form). bit i x.working) (prepared_is acl f e).1 ∙ set_exact (λ g. any is_blob_action g.actions) (acl_of acl) i

-- "for each blob kind exactly those with an action for it": of recovery blobs
pub recovery_exact : (acl : Bytes) (f : Form) → prepare acl ≡ prepared f → (i : ℕ) → bit i f.recovery ≡ holds_at (λ g. any is_archive g.actions) (get_elem? (acl_of acl) i)
unfolding form_of
recovery_exact acl f e i = ap (λ (x : Form). bit i x.recovery) (prepared_is acl f e).1 ∙ set_exact (λ g. any is_archive g.actions) (acl_of acl) i

-- "On every ledger and run not refused whole, answers and ledger equal those of asking it one by one in order."
pub prepared_run_lem : (l : Ledger) (km0 acl : Bytes) (row : List Certificate) (f : Form) (requests buffer : Bytes) → prepared_fault km0 acl row f requests buffer ≡ none
    → let o = asked_in_order (ask_gate km0 acl row) l (records requests) in
    ((prepared_run l km0 acl row f requests buffer).reply ≡ ran (requests_in requests))
    × ((prepared_run l km0 acl row f requests buffer).ledger ≡ o.ledger)
    × ((prepared_run l km0 acl row f requests buffer).buffer ≡ o.answers ++ drop (length o.answers) buffer)
unfolding prepared_run
prepared_run_lem l km0 acl row f requests buffer e = rw e (refl, refl, refl)

-- A run of request j that is not refused whole either has the same outcome.
pub prepared_plain : (l : Ledger) (km0 acl : Bytes) (row : List Certificate) (f : Form) (requests buffer : Bytes)
    → run_fault run_records km0 acl row requests buffer ≡ none → prepared_fault km0 acl row f requests buffer ≡ none
    → prepared_run l km0 acl row f requests buffer ≡ run l km0 acl row requests buffer
unfolding run prepared_run
prepared_plain l km0 acl row f requests buffer e p = rw (e, p)

-- "and nothing more": a form has a set for each permission and no more, and its sets name groups below 64 alone
pub form_fits : (acl : Bytes) (f : Form) → prepare acl ≡ prepared f → (length f.uses ≡ permissions_max) × Every (λ n. n < 2 ^ set_bits) f.uses × (f.working < 2 ^ set_bits) × (f.recovery < 2 ^ set_bits)
unfolding form_of
form_fits acl f e =
    let x = prepared_is acl f e in
    let fit : (test : Group → Bool) → set_of test (acl_of acl) < 2 ^ set_bits =
    λ test. lt_of_lt_of_le (set_bits_lem test (acl_of acl)) (pow_mono (acl_fits acl (file_records acl x.0)).groups) in
    rw x.1 (sets_many (acl_of acl) 0 permissions_max, sets_fit (acl_of acl) fit 0 permissions_max, fit (λ g. any is_blob_action g.actions), fit (λ g. any is_archive g.actions))
