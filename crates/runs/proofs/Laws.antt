-- The refusals of a run as a whole, and what is known of one that is not refused.
use Prim.Native.Nat.{ℕ, zero, suc, ◌+◌, ◌*◌, ◌/◌, ◌%◌, ◌≤◌, ◌<◌}
use native.Mathlib.Omega.{arith}
use native.Mathlib.Nat.{zero-add}
use mathlib.Core.Path.{◌≡◌, refl, sym, ◌∙◌, ap}
use mathlib.Core.List.{List, [], ◌∷◌, ◌++◌}
use mathlib.Core.Option.{Option, none, some}
use mathlib.Core.Bool.{Bool, true, false, not, ◌&&◌}
use borrow.Author.Tests.{leb-true, le-leb, lt-leb, not-true, not-false}
use lib.ListN.{length, get_or, drop, replicate}
use lib.Dec.{eqb, leb}
use Rattle.rules.specs.Sizes.{hash_bytes, acl_records, answer_bytes, run_records, prepared_records, groups_max, set_bits}
use Rattle.rules.specs.Numbers.{bad_length, short_buffer, other_form}
use Rattle.rules.specs.Basics.{Bytes, unless, or_next, first_fault, records, fits}
use Rattle.rules.specs.Acl.{acl_of}
use Rattle.rules.specs.Ledger.{Ledger}
use Rattle.rules.specs.Runs.{requests_in, run_lengths_fit, RunOutcome, ran, run_end, asked_in_order}
use Rattle.rules.specs.Prepared.{Form, form_of, same_form}
use Rattle.rules.proofs.Laws.{and_left, and_right, unless_passed, fault_none_every, chunks_length}
use Rattle.run_requests.specs.Written.{Running, over_at, writing}
use Rattle.run_requests.proofs.Loop.{writing_is}
use Rattle.rules.proofs.AclSizes.{acl_fits}
use Rattle.rules.proofs.Forms.{same_form_lem}
use Rattle.run_form.specs.Places.{Inside, Offsets}
use Rattle.run_form.specs.declared.Prepared.{Prepared}
use Rattle.run_form.specs.Forms.{form_as}
use Rattle.gate_decision.specs.Standings.{ledger_of_tables}
use Rattle.run_decision.specs.Ready.{Ready}
use Rattle.run_decision.specs.Deciding.{ask_sets}
use Rattle.run_certificates.specs.declared.RowSummary.{RowSummary}
use Rattle.runs.specs.Judged.{run_refused, seen_fault, Known, asked_by_sets, run_seen, prepared_seen}

-- the number of records of a file
requests_in_lem : (s : Bytes) → requests_in s ≡ length s / 64
unfolding records
requests_in_lem s = chunks_length (length s / 64) s

pub room_left : (requests : Bytes) (room : ℕ) → length requests / 64 * 8 ≤ room → none ≡ unless (leb (requests_in requests * answer_bytes) room) short_buffer
room_left requests room h = let e = requests_in_lem requests in sym (rw (le-leb (requests_in requests * 8) room (omega arith)))

pub room_short : (requests : Bytes) (room : ℕ) → room < length requests / 64 * 8 → some short_buffer ≡ unless (leb (requests_in requests * answer_bytes) room) short_buffer
room_short requests room h = let e = requests_in_lem requests in sym (rw (lt-leb (requests_in requests * 8) room (omega arith)))

-- a test of a number against the most it may be, and of a flag
module _ {F : Type 0} (f : F) (ts : List (Option F)) (x : Option F) where
  pub over_here : (n most : ℕ) → most < n → x ≡ some f → x ≡ first_fault (unless (leb n most) f ∷ ts)
  unfolding first_fault
  over_here n most h p = p ∙ rw (lt-leb n most h)

  pub over_later : (n most : ℕ) → n ≤ most → x ≡ first_fault ts → x ≡ first_fault (unless (leb n most) f ∷ ts)
  unfolding first_fault
  over_later n most h p = p ∙ rw (le-leb n most h)

  pub flag_here : (t : Bool) → not t ≡ true → x ≡ some f → x ≡ first_fault (unless t f ∷ ts)
  unfolding first_fault
  flag_here t h p = p ∙ rw (not-true t h)

  pub flag_later : (t : Bool) → not t ≡ false → x ≡ first_fault ts → x ≡ first_fault (unless t f ∷ ts)
  unfolding first_fault
  flag_later t h p = p ∙ rw (not-false t h)

-- the last two of the faults
pub first_of_two : {F : Type 0} (x o t : Option F) (f : F) → x ≡ some f → some f ≡ o → x ≡ first_fault (o ∷ t ∷ [])
unfolding first_fault
first_of_two x o t f e p = e ∙ rw (← p)

pub last_of_two : {F : Type 0} (x o t : Option F) → none ≡ o → x ≡ t → x ≡ first_fault (o ∷ t ∷ [])
unfolding first_fault
last_of_two {F = F} x o t p e = e ∙ rw (← p) (sym (last t))
  where
    last : (s : Option F) → or_next s none ≡ s
    last none = refl
    last (some f) = refl

-- A run that is not refused whole.
module _ (most : ℕ) (km0 acl : Bytes) (count : ℕ) (named : Bool) (requests : Bytes) (room : ℕ) (p : seen_fault most km0 acl count named requests room ≡ none) where
  pub seen_fit : length (acl_of acl) ≤ set_bits
  unfolding seen_fault
  seen_fit = let h = fault_none_every _ p in (acl_fits acl h.1.1.1.0).groups

  pub seen_known : (form : Form) → form ≡ form_of (acl_of acl) → most ≤ 1000 → Known acl form requests room
  unfolding seen_fault fits
  seen_known form is l =
      let h = fault_none_every _ p in
      let t = unless_passed (run_lengths_fit most km0 acl requests) bad_length h.0 in
      let u = and_left (fits most requests) (fits acl_records acl) (and_left (fits most requests && fits acl_records acl) (eqb (length km0) hash_bytes) t) in
      let w = leb-true (length requests) (most * 64) (and_right (eqb (length requests % 64) 0) (leb (length requests) (most * 64)) u) in
      let i = requests_in_lem requests in
      let b = leb-true (requests_in requests * answer_bytes) room (unless_passed _ short_buffer h.1.1.1.1.0) in
      record {
        sound = h.1.1.1.0;
        same = is;
        few = omega arith;
        roomy = omega arith;
      }

-- ---- the requests, one after the other
pub zero_inside : (acl : Bytes) (n : ℕ) → Inside acl (replicate n 0)
zero_inside acl n = record { each = λ k. let z = zero_there n k in omega arith }
  where
    zero_there : (n i : ℕ) → ◌≡◌ {A = ℕ} (get_or (replicate n 0) i 0) 0
    zero_there zero i = refl
    zero_there (suc n) zero = refl
    zero_there (suc n) (suc i) = zero_there n i

module _ (acl : Bytes) (form : Form) (requests : Bytes) (room : ℕ) (known : Known acl form requests room) where
  pub known_groups : (groups : ℕ) → groups ≡ length (acl_of acl) → groups ≤ groups_max
  known_groups groups e = let h = (acl_fits acl known.sound).groups in omega arith

  pub known_few : length (acl_of acl) ≤ groups_max
  known_few = (acl_fits acl known.sound).groups

pub known_ready : (acl : Bytes) (form : Prepared) (requests : Bytes) (room : ℕ) (bodies : List ℕ) → Known acl (form_as form) requests room → Offsets acl bodies → Ready acl bodies form
known_ready acl form requests room bodies known b = record { sound = known.sound; places = b; form_is = known.same }

-- what they come to
pub ran_is : (km0 acl : Bytes) (form : Form) (requests buffer after : Bytes) (counts counters counts' counters' : List ℕ) (loaded before last c n : ℕ)
    → Known acl form requests (length buffer)
    → ◌≡◌ {A = Running} (record { ledger = ledger_of_tables counts' counters' loaded last; buffer = after }) (writing (ask_sets km0 (acl_of acl) c) (ledger_of_tables counts counters loaded before) buffer 0 (records requests))
    → n ≡ length requests / 64
    → ◌≡◌ {A = RunOutcome} (record { reply = ran n; ledger = ledger_of_tables counts' counters' loaded last; buffer = after })
    (run_end (ledger_of_tables counts counters loaded before) requests buffer none (asked_in_order (ask_sets km0 (acl_of acl) c) (ledger_of_tables counts counters loaded before) (records requests)))
unfolding over_at
ran_is km0 acl form requests buffer after counts counters counts' counters' loaded before last c n known w e =
    let ask = ask_sets km0 (acl_of acl) c in
    let l = ledger_of_tables counts counters loaded before in
    let o = asked_in_order ask l (records requests) in
    let i = requests_in_lem requests in
    let h = known.roomy in
    let x : ◌≡◌ {A = Running} (record { ledger = ledger_of_tables counts' counters' loaded last; buffer = after }) (record { ledger = o.ledger; buffer = over_at 0 o.answers buffer }) = w ∙ writing_is ask l buffer 0 (records requests) (omega arith) in
    let y : ledger_of_tables counts' counters' loaded last ≡ o.ledger = ap (λ (z : Running). z.ledger) x in
    let z : after ≡ (o.answers ++ drop (0 + length o.answers) buffer) = ap (λ (z : Running). z.buffer) x in
    let u : after ≡ (o.answers ++ drop (length o.answers) buffer) = z ∙ rw zero-add in
    rw (y, u, e ∙ sym i)

-- request j
module _ (l : Ledger) (km0 acl : Bytes) (s : RowSummary) (requests buffer : Bytes) where
  pub refused_run : (n : ℕ) → seen_fault run_records km0 acl s.count s.named requests (length buffer) ≡ some n → run_refused l n buffer ≡ run_seen l km0 acl s requests buffer
  unfolding run_seen
  refused_run n e = sym (rw e)

  module _ (p : seen_fault run_records km0 acl s.count s.named requests (length buffer) ≡ none) where
    pub made_known : (form : Form) → form ≡ form_of (acl_of acl) → Known acl form requests (length buffer)
    made_known form is = seen_known run_records km0 acl s.count s.named requests (length buffer) p form is (omega arith)

    pub made_run : (o : RunOutcome) → o ≡ run_end l requests buffer none (asked_by_sets km0 acl s l requests) → o ≡ run_seen l km0 acl s requests buffer
    unfolding run_seen
    made_run o d = d ∙ sym (rw p)

-- request k
module _ (l : Ledger) (km0 acl : Bytes) (s : RowSummary) (form : Form) (requests buffer : Bytes) where
  pub refused_prepared : (n : ℕ) → seen_fault prepared_records km0 acl s.count s.named requests (length buffer) ≡ some n
      → run_refused l n buffer ≡ prepared_seen l km0 acl s form requests buffer
  unfolding prepared_seen first_fault
  refused_prepared n e = sym (rw e)

  module _ (p : seen_fault prepared_records km0 acl s.count s.named requests (length buffer) ≡ none) (made : Form) (r : Bool) (is : made ≡ form_of (acl_of acl)) (e : r ≡ same_form form made) where
    pub other_form_lem : not r ≡ true → run_refused l other_form buffer ≡ prepared_seen l km0 acl s form requests buffer
    unfolding prepared_seen first_fault
    other_form_lem n =
        let f : same_form form (form_of (acl_of acl)) ≡ false = ap (same_form form) (sym is) ∙ sym e ∙ not-true r n in
        sym (rw (p, f))

    form_same : not r ≡ false → same_form form (form_of (acl_of acl)) ≡ true
    form_same n = ap (same_form form) (sym is) ∙ sym e ∙ not-false r n

    pub passed_known : not r ≡ false → Known acl form requests (length buffer)
    passed_known n = seen_known prepared_records km0 acl s.count s.named requests (length buffer) p form (same_form_lem form (form_of (acl_of acl)) (form_same n)) (omega arith)

    pub passed_run : (o : RunOutcome) → not r ≡ false → o ≡ run_end l requests buffer none (asked_by_sets km0 acl s l requests) → o ≡ prepared_seen l km0 acl s form requests buffer
    unfolding prepared_seen first_fault
    passed_run o n d = let f = form_same n in d ∙ sym (rw (p, f))
