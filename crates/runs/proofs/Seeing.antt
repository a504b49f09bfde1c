-- A run by what was read of its row is the run over the row.
use Prim.Native.Nat.{ℕ, ◌≤◌}
use mathlib.Core.Path.{◌≡◌, refl, sym, ◌∙◌, ap}
use mathlib.Core.List.{List, []}
use mathlib.Core.Option.{Option, none, some}
use mathlib.Core.Bool.{Bool, true, false, ◌&&◌, ◌||◌}
use borrow.Author.Tests.{le-leb}
use lib.ListN.{length, take}
use lib.Seq.{take_all}
use lib.Dec.{leb}
use Rattle.rules.specs.Sizes.{record_bytes, acl_records, certificates_max, run_records, prepared_records, set_bits}
use Rattle.rules.specs.Basics.{Bytes, any, set_of, records, fits}
use Rattle.rules.specs.Acl.{Group, acl_of}
use Rattle.rules.specs.Request.{Wanted, operation, working_blob, recovery_blob, Certificate, wanted_of}
use Rattle.rules.specs.Chain.{serves, chained, delegated, vouched}
use Rattle.rules.specs.Ledger.{Ledger}
use Rattle.rules.specs.Grant.{certified, certified_by}
use Rattle.rules.specs.Gate.{judge}
use Rattle.rules.specs.Runs.{request_with, ask_gate, asked_in_order, run_fault, run_end, run}
use Rattle.rules.specs.Prepared.{Form, prepared_fault, prepared_run}
use Rattle.rules.proofs.Laws.{fault_none_every}
use Rattle.rules.proofs.Rows.{records_sized}
use Rattle.rules.proofs.Sets.{set_alike}
use Rattle.run_decision.proofs.GroupSets.{sets_judge}
use Rattle.rules.proofs.Asking.{Sound, ask_gate_lem, run_sound, asked_alike}
use Rattle.rules.proofs.AclSizes.{acl_fits}
use Rattle.run_certificates.specs.declared.RowSummary.{RowSummary}
use Rattle.run_certificates.specs.Rows.{certified_in, certified_set, readable_of, Saw}
use Rattle.run_decision.specs.Deciding.{admitting_set, set_judge, ask_sets}
use Rattle.runs.specs.Judged.{seen_fault, run_seen, prepared_seen}

-- ---- certified by the row, with no delegations
undelegated : (w : Wanted) (k : Bytes) (m : Option ℕ) (row : List Certificate) → delegated w k m row [] ≡ false
unfolding delegated chained any
undelegated (operation p) k m row = refl
undelegated (working_blob b f) k m row = refl
undelegated (recovery_blob b f) k m row = refl

certified_row : (w : Wanted) (row : List Certificate) (k : Option Bytes) (m : Option ℕ) → certified_by k m w row [] ≡ certified_in row k m
unfolding certified_in vouched
certified_row w row none m = refl
certified_row w row (some k) m = ap (λ (b : Bool). any (serves k m) row || b) (undelegated w k m row) ∙ or_false (any (serves k m) row)
  where
    or_false : (b : Bool) → (b || false) ≡ b
    or_false true = refl
    or_false false = refl

-- ---- one request by the sets is the gate's
judge_alike : (km0 : Bytes) (gs : List Group) (row : List Certificate) → length gs ≤ set_bits → (l : Ledger) (r : Bytes) → set_judge l km0 gs (certified_set row gs) r ≡ judge l km0 gs (request_with r row)
unfolding set_judge judge admitting_set certified_set
judge_alike km0 gs row fit l r =
    let c : set_of (certified (request_with r row)) gs ≡ set_of (λ g. certified_in row g.certifier g.mechanism) gs = set_alike (certified (request_with r row)) (λ g. certified_in row g.certifier g.mechanism) gs (λ g. certified_row (wanted_of r none) row g.certifier g.mechanism) in
    rw (sets_judge l km0 gs (request_with r row) fit, c)

-- what is known of the row where the run is not refused whole: the set that was read is that of all groups
seen_set : (km0 acl : Bytes) (row : List Certificate) (s : RowSummary) → Saw s acl row → Sound km0 acl row → s.certified ≡ certified_set row (acl_of acl)
unfolding readable_of
seen_set km0 acl row s w sound =
    let t : (fits acl_records acl && leb (length row) certificates_max) ≡ true = rw sound.acl_length (le-leb (length row) certificates_max sound.few) in
    let whole : readable_of acl (length row) ≡ acl = rw t in
    w.certified_is ∙ ap (λ (z : Bytes). certified_set row (take set_bits (acl_of z))) whole ∙ ap (certified_set row) (take_all set_bits (acl_of acl) (acl_fits acl sound.acl_sound).groups)

ask_sets_lem : (km0 acl : Bytes) (row : List Certificate) (s : RowSummary) → Saw s acl row → Sound km0 acl row → (l : Ledger) (r : Bytes) → length r ≡ record_bytes → ask_sets km0 (acl_of acl) s.certified l r ≡ ask_gate km0 acl row l r
unfolding ask_sets
ask_sets_lem km0 acl row s w sound l r n =
    rw (seen_set km0 acl row s w sound, judge_alike km0 (acl_of acl) row (acl_fits acl sound.acl_sound).groups l r) (sym (ask_gate_lem km0 acl row sound l r n))

-- the refusals of a run as a whole
seen_fault_lem : (most : ℕ) (km0 acl : Bytes) (row : List Certificate) (s : RowSummary) (requests buffer : Bytes) → Saw s acl row → seen_fault most km0 acl s.count s.named requests (length buffer) ≡ run_fault most km0 acl row requests buffer
unfolding seen_fault run_fault
seen_fault_lem most km0 acl row s requests buffer w = rw (w.count_is, w.named_is)

pub run_seen_lem : (l : Ledger) (km0 acl : Bytes) (row : List Certificate) (s : RowSummary) (requests buffer : Bytes) → Saw s acl row → run_seen l km0 acl s requests buffer ≡ run l km0 acl row requests buffer
unfolding run_seen run
run_seen_lem l km0 acl row s requests buffer w = rw (seen_fault_lem run_records km0 acl row s requests buffer w) (pick (run_fault run_records km0 acl row requests buffer) refl)
  where
    pick : (o : Option ℕ) → run_fault run_records km0 acl row requests buffer ≡ o
        → run_end l requests buffer o (asked_in_order (ask_sets km0 (acl_of acl) s.certified) l (records requests)) ≡ run_end l requests buffer o (asked_in_order (ask_gate km0 acl row) l (records requests))
    pick (some f) e = refl
    pick none e = let sound = (run_sound run_records km0 acl row requests buffer w.decoded e).0 in rw (asked_alike (ask_sets km0 (acl_of acl) s.certified) (ask_gate km0 acl row) l (records requests) (records_sized requests) (ask_sets_lem km0 acl row s w sound))

-- ---- on a prepared ACL
pub prepared_seen_lem : (l : Ledger) (km0 acl : Bytes) (row : List Certificate) (s : RowSummary) (f : Form) (requests buffer : Bytes) → Saw s acl row
    → prepared_seen l km0 acl s f requests buffer ≡ prepared_run l km0 acl row f requests buffer
unfolding prepared_seen prepared_fault prepared_run
prepared_seen_lem l km0 acl row s f requests buffer w =
    rw (seen_fault_lem prepared_records km0 acl row s requests buffer w) (pick (prepared_fault km0 acl row f requests buffer) refl)
  where
    pick : (o : Option ℕ) → prepared_fault km0 acl row f requests buffer ≡ o
        → run_end l requests buffer o (asked_in_order (ask_sets km0 (acl_of acl) s.certified) l (records requests)) ≡ run_end l requests buffer o (asked_in_order (ask_gate km0 acl row) l (records requests))
    pick (some n) e = refl
    pick none e =
        let sound = (run_sound prepared_records km0 acl row requests buffer w.decoded (fault_none_every _ e).0).0 in
        rw (asked_alike (ask_sets km0 (acl_of acl) s.certified) (ask_gate km0 acl row) l (records requests) (records_sized requests) (ask_sets_lem km0 acl row s w sound))
