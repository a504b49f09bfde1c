-- The numbers that a run, a run on a prepared ACL and the making of a form can be refused with, and those of the answers. Two wrong products that this
-- rules out: a run refused with 14 without a form, and a form refused with 9.
use Prim.Native.Nat.{ℕ, ◌*◌}
use mathlib.Core.Path.{◌≡◌, refl, ap}
use mathlib.Core.List.{List}
use mathlib.Core.Option.{Option, none, some}
use mathlib.Core.Bool.{true}
use lib.ListN.{length}
use lib.Dec.{leb}
use Rattle.rules.specs.Sizes.{acl_records, certificates_max, answer_bytes, run_records, prepared_records}
use Rattle.rules.specs.Numbers.{bad_length, malformed, too_many, short_buffer, open_archive, other_form}
use Rattle.rules.specs.Basics.{Bytes, all, any, file_fault, records, fits}
use Rattle.rules.specs.Acl.{acl_of, acl_fault}
use Rattle.rules.specs.Request.{Certificate}
use Rattle.rules.specs.Ledger.{Ledger}
use Rattle.rules.specs.Runs.{with_row, ask_gate, Ran, asked_in_order, requests_in, run_lengths_fit, mechanism_named, run_fault, refused_whole, run_end, run}
use Rattle.rules.specs.Prepared.{Form, form_of, same_form, unprepared, preparation_unless, prepare, prepared_fault, prepared_run}
use Rattle.rules.proofs.Laws.{never}
use Rattle.theorems.specs.Demands.{one_of}
use Rattle.theorems.proofs.Refusals.{FaultIn, unless_in, first_in_lem, acl_in, request_number}
use Rattle.theorems.specs.Numbers.{RefusalIn, request_numbers, file_numbers, run_numbers, prepared_numbers}

module _ (ns : List ℕ) (one : one_of ns bad_length ≡ true) (two : one_of ns malformed ≡ true) (three : one_of ns too_many ≡ true) (twelve : one_of ns open_archive ≡ true) (nine : one_of ns short_buffer ≡ true) where
  run_fault_in : (most : ℕ) (km0 acl : Bytes) (row : List Certificate) (requests buffer : Bytes) → FaultIn ns (run_fault most km0 acl row requests buffer)
  unfolding run_fault
  run_fault_in most km0 acl row requests buffer =
      first_in_lem ns _ (
        unless_in ns (run_lengths_fit most km0 acl requests) bad_length one,
        (
          unless_in ns (leb (length row) certificates_max) too_many three,
          (
            unless_in ns (all mechanism_named row) malformed two,
            (acl_in ns two three twelve (records acl), (unless_in ns (leb (requests_in requests * answer_bytes) (length buffer)) short_buffer nine, tt)),
          ),
        ),
      )

-- what a run is refused with is its fault
refused_fault : (ns : List ℕ) (l : Ledger) (requests buffer : Bytes) (f : Option ℕ) (o : Ran) → FaultIn ns f → (n : ℕ) → (run_end l requests buffer f o).reply ≡ refused_whole n → one_of ns n ≡ true
refused_fault ns l requests buffer none o h n e = absurd (never (cc))
refused_fault ns l requests buffer (some f) o h n e = let q : f ≡ n = cc in h n (ap some q)

pub run_number : (l : Ledger) (km0 acl : Bytes) (row : List Certificate) (requests buffer : Bytes) (n : ℕ) → (run l km0 acl row requests buffer).reply ≡ refused_whole n → one_of run_numbers n ≡ true
unfolding run one_of any
run_number l km0 acl row requests buffer n e =
    refused_fault run_numbers l requests buffer (run_fault run_records km0 acl row requests buffer) (asked_in_order (ask_gate km0 acl row) l (records requests))
    (run_fault_in run_numbers refl refl refl refl refl run_records km0 acl row requests buffer) n e

pub prepared_number : (l : Ledger) (km0 acl : Bytes) (row : List Certificate) (f : Form) (requests buffer : Bytes) (n : ℕ) → (prepared_run l km0 acl row f requests buffer).reply ≡ refused_whole n
    → one_of prepared_numbers n ≡ true
unfolding prepared_run prepared_fault one_of any
prepared_number l km0 acl row f requests buffer n e =
    let ns = prepared_numbers in
    refused_fault ns l requests buffer (prepared_fault km0 acl row f requests buffer) (asked_in_order (ask_gate km0 acl row) l (records requests))
    (first_in_lem ns _ (run_fault_in ns refl refl refl refl refl prepared_records km0 acl row requests buffer, (unless_in ns (same_form f (form_of (acl_of acl))) other_form refl, tt))) n e

-- The making of a form: the ACL's 1, 2, 3 and 12.
pub prepare_number : (acl : Bytes) (n : ℕ) → prepare acl ≡ unprepared n → one_of file_numbers n ≡ true
unfolding prepare file_fault one_of any
prepare_number acl n e =
    let ns = file_numbers in
    pick (file_fault acl_records acl_fault acl) (first_in_lem ns _ (unless_in ns (fits acl_records acl) bad_length refl, (acl_in ns refl refl refl (records acl), tt))) e
  where
    pick : (f : Option ℕ) → FaultIn file_numbers f → preparation_unless f (form_of (acl_of acl)) ≡ unprepared n → one_of file_numbers n ≡ true
    pick none h d = absurd (never (cc))
    pick (some f) h d = let q : f ≡ n = cc in h n (ap some q)

-- The answers of a run are the gate's: 6 and 7 name a group, and no other refusal does.
pub answer_number : (km0 acl : Bytes) (row : List Certificate) (l : Ledger) (r : Bytes) → RefusalIn request_numbers (ask_gate km0 acl row l r)
answer_number km0 acl row l r = request_number l km0 acl (with_row r row)
