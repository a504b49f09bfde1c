-- What it means to ask the gate with a row of decoded certificates: the file made of the row reads back as the row, and of its faults only the
-- request record's own is left once the run as a whole is not refused.
use Prim.Native.Nat.{ℕ, ◌+◌, ◌*◌, ◌≤◌}
use native.Mathlib.Omega.{arith}
use mathlib.Core.Path.{◌≡◌, refl}
use mathlib.Core.List.{List, [], ◌∷◌, map}
use mathlib.Core.Option.{Option, none, some}
use mathlib.Core.Bool.{Bool, true, false, ◌&&◌}
use lib.ListN.{length, length-map}
use lib.Dec.{eqb, ltb}
use borrow.Author.Tests.{eqb-false, not-true, leb-true, lt-ltb}
use Rattle.rules.specs.Sizes.{record_bytes, hash_bytes, acl_records, certificates_max, request_records, answer_bytes}
use Rattle.rules.specs.Numbers.{bad_length, malformed, too_many, short_buffer}
use Rattle.rules.specs.Basics.{Bytes, all, Every, number, kind, or_next, first_fault, record_fault, scan, records, fits}
use Rattle.rules.specs.Acl.{announces_blobfile, acl_of, acl_fault}
use Rattle.rules.specs.Request.{Certificate, certificates_of, delegations_of, blobfile_next, request_from, request_laid_out, stands_alone, request_record_fault, certificate_fault, presented_record_fault, after_presented, presented_end, presented_fault, blobfile_request_record, blobfile_follows, request_fault}
use Rattle.rules.specs.Ledger.{Ledger}
use Rattle.rules.specs.Gate.{Outcome, judge, permitted, outcome_unless, settle, request}
use Rattle.rules.specs.Written.{certificate_bytes}
use Rattle.rules.specs.Runs.{Decoded, with_row, request_with, ask_gate, asked_in_order, requests_in, run_lengths_fit, mechanism_named, run_fault}
use Rattle.rules.proofs.Laws.{and_left, and_right, unless_passed, fault_none_every}
use Rattle.rules.proofs.Joined.{Whole, joined_records, joined_fits}
use Rattle.rules.proofs.Written.{certificate_whole, certificate_read, certificate_laid_out_lem}

named : (c : Certificate) → mechanism_named c ≡ true → (c.mechanism ≡ 0 → ⊥)
named c m e = eqb-false c.mechanism 0 (not-true (eqb c.mechanism 0) m) e

-- The file's records: the request record, and one for each certificate.
row_whole : (row : List Certificate) → Every Decoded row → Every Whole (map certificate_bytes row)
row_whole [] d = tt
row_whole (c ∷ cs) d = (certificate_whole c d.0, row_whole cs d.1)

pub file_records : (r : Bytes) (row : List Certificate) → length r ≡ record_bytes → Every Decoded row → records (with_row r row) ≡ r ∷ map certificate_bytes row
unfolding with_row
file_records r row n d = joined_records (r ∷ map certificate_bytes row) (n, row_whole row d)

-- the file is whole records, and not too long
pub file_fits : (r : Bytes) (row : List Certificate) → length r ≡ record_bytes → Every Decoded row → length row ≤ certificates_max → fits request_records (with_row r row) ≡ true
unfolding with_row
file_fits r row n d few =
    let l = length-map row certificate_bytes in
    joined_fits request_records (r ∷ map certificate_bytes row) (n, row_whole row d) (omega arith)

-- its certificates have no fault, and are the row
kind_9 : (c : Certificate) → kind (certificate_bytes c) ≡ 9
unfolding certificate_bytes
kind_9 c = refl

row_sound : (n : ℕ) (row : List Certificate) → Every Decoded row → n + length row ≤ certificates_max → all mechanism_named row ≡ true
    → scan presented_record_fault after_presented presented_end (record { certificates = n; delegations = 0 }) (map certificate_bytes row) ≡ none
unfolding scan presented_record_fault certificate_fault after_presented record_fault first_fault all
row_sound n [] d few m = refl
row_sound n (c ∷ cs) d few m =
    let g = certificate_laid_out_lem c d.0 (named c (and_left (mechanism_named c) (all mechanism_named cs) m)) in
    let t : ltb n certificates_max ≡ true = lt-ltb n certificates_max (omega arith) in
    rw (kind_9 c, g, t) (row_sound (n + 1) cs d.1 (omega arith) (and_right (mechanism_named c) (all mechanism_named cs) m))

row_back : (row : List Certificate) → Every Decoded row → (certificates_of (map certificate_bytes row) ≡ row) × (delegations_of (map certificate_bytes row) ≡ [])
unfolding certificates_of delegations_of
row_back [] d = (refl, refl)
row_back (c ∷ cs) d = let i = row_back cs d.1 in (rw (kind_9 c, certificate_read c d.0, i.0), rw (kind_9 c, i.1))

-- no record of kind 15 comes next
no_file : (row : List Certificate) → (blobfile_follows (map certificate_bytes row) ≡ false) × (blobfile_next (map certificate_bytes row) ≡ none)
unfolding blobfile_follows blobfile_request_record blobfile_next
no_file [] = (refl, refl)
no_file (c ∷ cs) = (rw (kind_9 c), rw (kind_9 c))

-- The file's fault is the request record's own: one that announces a record of kind 15 is malformed here.
pub row_fault : (r : Bytes) (row : List Certificate) → Every Decoded row → length row ≤ certificates_max → all mechanism_named row ≡ true → request_fault request_laid_out (r ∷ map certificate_bytes row) ≡ request_record_fault r
unfolding request_fault request_record_fault stands_alone presented_fault first_fault
row_fault r row d few m = pick (request_laid_out r) refl (announces_blobfile r) refl
  where
    pick : (a : Bool) → request_laid_out r ≡ a → (b : Bool) → announces_blobfile r ≡ b → request_fault request_laid_out (r ∷ map certificate_bytes row) ≡ request_record_fault r
    pick false e b f = rw e
    pick true e true f = rw (e, f, (no_file row).0)
    pick true e false f = rw (e, f, row_sound 0 row d (omega arith) m)

-- the file asks for what its records say
pub row_request : (r : Bytes) (row : List Certificate) → Every Decoded row → request_from (r ∷ map certificate_bytes row) ≡ request_with r row
unfolding request_from
row_request r row d = let b = row_back row d in rw ((no_file row).1, b.0, b.1)

-- What a run not refused whole knows of its ACL, KM0 and row.
pub record Sound (km0 acl : Bytes) (row : List Certificate) : Type 0 where
  pub decoded : Every Decoded row
  pub few : length row ≤ certificates_max
  pub named : all mechanism_named row ≡ true
  pub km0_length : eqb (length km0) hash_bytes ≡ true
  pub acl_length : fits acl_records acl ≡ true
  pub acl_sound : acl_fault (records acl) ≡ none

-- One request of such a run, asked of the gate: its record's own fault, or else the judgement of what it asks with the row's certificates.
pub ask_gate_lem : (km0 acl : Bytes) (row : List Certificate) → Sound km0 acl row → (l : Ledger) (r : Bytes) → length r ≡ record_bytes
    → ask_gate km0 acl row l r ≡ outcome_unless l (request_record_fault r) (settle l (number 56 8 r) permitted (judge l km0 (acl_of acl) (request_with r row)))
unfolding request first_fault
ask_gate_lem km0 acl row s l r n =
    let rs = file_records r row n s.decoded in
    let a = file_fits r row n s.decoded s.few in
    let f = row_fault r row s.decoded s.few s.named in
    rw (rs, s.km0_length, s.acl_length, a, s.acl_sound, f) (pick (request_record_fault r) refl)
  where
    pick : (o : Option ℕ) → request_record_fault r ≡ o
        → outcome_unless l (or_next (request_record_fault r) none) (settle l (request_from (r ∷ map certificate_bytes row)).time permitted (judge l km0 (acl_of acl) (request_from (r ∷ map certificate_bytes row))))
        ≡ outcome_unless l (request_record_fault r) (settle l (number 56 8 r) permitted (judge l km0 (acl_of acl) (request_with r row)))
    pick (some f) e = rw e
    pick none e = rw (e, row_request r row s.decoded)

-- a run that is not refused whole
pub run_sound : (most : ℕ) (km0 acl : Bytes) (row : List Certificate) (requests buffer : Bytes) → Every Decoded row → run_fault most km0 acl row requests buffer ≡ none
    → Sound km0 acl row × (requests_in requests * answer_bytes ≤ length buffer)
unfolding run_fault
run_sound most km0 acl row requests buffer d e =
    let h = fault_none_every _ e in
    let t = unless_passed (run_lengths_fit most km0 acl requests) bad_length h.0 in
    let files = and_left (fits most requests && fits acl_records acl) (eqb (length km0) hash_bytes) t in (
      record {
        decoded = d;
        few = leb-true (length row) certificates_max (unless_passed _ too_many h.1.0);
        named = unless_passed (all mechanism_named row) malformed h.1.1.0;
        km0_length = and_right (fits most requests && fits acl_records acl) (eqb (length km0) hash_bytes) t;
        acl_length = and_right (fits most requests) (fits acl_records acl) files;
        acl_sound = h.1.1.1.0;
      },
      leb-true (requests_in requests * answer_bytes) (length buffer) (unless_passed _ short_buffer h.1.1.1.1.0),
    )

-- two ways to ask that agree on records of 64 bytes have the same answers and ledger
pub asked_alike : (ask tell : Ledger → Bytes → Outcome) (l : Ledger) (rs : List Bytes) → Every (λ r. length r ≡ record_bytes) rs
    → ((l : Ledger) (r : Bytes) → length r ≡ record_bytes → ask l r ≡ tell l r) → asked_in_order ask l rs ≡ asked_in_order tell l rs
unfolding asked_in_order
asked_alike ask tell l [] n f = refl
asked_alike ask tell l (r ∷ rs) n f = rw (f l r n.0, asked_alike ask tell (tell l r).ledger rs n.1 f)
