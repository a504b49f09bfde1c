-- What holds of the text form of each kind of file. The gate's, the desk's and the day program's own faults are those that count.
use Prim.Native.Nat.{ℕ, ◌+◌, ◌-◌, ◌*◌, ◌≤◌, ◌<◌}
use native.Mathlib.Omega.{arith}
use mathlib.Core.Path.{◌≡◌, refl, sym, ◌∙◌, ap}
use mathlib.Core.Logic.{◌⊎◌, inl, inr}
use mathlib.Core.List.{List, [], ◌∷◌}
use mathlib.Core.Option.{Option, none, some}
use mathlib.Core.Bool.{Bool, true, false, not, false≢true}
use lib.ListN.{length, take}
use lib.Dec.{eqb, leb, ltb}
use borrow.Author.Tests.{eqb-true, leb-true, le-ltb, lt-ltb, not-true}
use Rattle.rules.specs.Sizes.{request_records, bundle_records, day_records, hint_records, certificates_max, delegations_max}
use Rattle.rules.specs.Numbers.{malformed}
use Rattle.std.specs.Prelude.{if◌then◌else◌}
use Rattle.rules.specs.Basics.{Bytes, Every, ascii, byte, kind, records, unless, each_fault, file_fault}
use Rattle.rules.specs.Layout.{between, certificate_laid_out, delegation_laid_out, blobfile_laid_out, blobfile_request_laid_out, hint_laid_out, fact_laid_out, signature_laid_out, policy_laid_out}
use Rattle.rules.specs.Acl.{announces_blobfile, acl_file_fault}
use Rattle.rules.specs.Request.{request_laid_out, stands_alone, blobfile_request_record, request_record_fault, request_fault, hint_record, hints_file_fault}
use Rattle.rules.specs.Bundle.{order_of, BundleState, bundle_start, bundle_record_laid_out, in_order, bundle_in_place, bundle_has_room, bundle_record_fault, bundle_end, bundle_fault}
use Rattle.rules.proofs.Laws.{never, and_left, and_right, and_both, unless_passed}
use Rattle.text_rules.specs.Words.{spaced, text_by, blobfile_line_max}
use Rattle.text_rules.specs.OtherWords.{name_at, field_names, signature_names, record_line, request_line_max, alone_line_max, certificate_line_max, delegation_line_max, hint_line_max, request_text_max, requests_text_max, bundle_text_max, hints_text_max}
use Rattle.text_rules.specs.OtherDecoding.{record_of}
use Rattle.text_rules.specs.Kinds.{FileKind, kind_fault, acl_kind, RequestState, request_due, blob_file_due, presenting, request_state_fault, request_end, request_kind, each_kind, requests_kind, bundle_kind, hints_kind}
use Rattle.text_rules.specs.Listing.{read_as, bad_line, read_text, produced, delivered, write_text, read_text_into, Octet, IsRecord, so_far, FirstBad}
use Rattle.text_rules.proofs.Lines.{record_line_one}
use Rattle.text_rules.proofs.Others.{use_line, blob_line, recovery_line, certificate_line, fact_line, signature_line, policy_line, hint_line, delegation_line, file_line, told_record}
use Rattle.text_rules.proofs.Reading.{Lawful, text_read_back, text_as_written, first_bad, bad_number}
use Rattle.text_rules.proofs.Room.{total, total_room, total_count}
use Rattle.text_rules.proofs.Lengths.{text_bound}
use Rattle.text_rules.proofs.Entries.{write_then_read, read_then_write}
use Rattle.text_rules.proofs.Acl.{acl_lawful}
use Rattle.text_rules.proofs.Readers.{acl_reader, request_reader, requests_reader, bundle_reader, hints_reader}
use Rattle.text_rules.proofs.Bounds.{fault_passed, each_spent, three_kinds, presented_is, request_weight, request_room, request_spent, bundle_room, bundle_spent}
use Rattle.text_rules.proofs.OtherLengths.{filed, request_length, certificate_length, fact_length, signature_length, policy_length, hint_length, delegation_length, blobfile_length}

ruleset conj = (and_left, and_right, and_both)

-- Records read back from their lines, by what the reader of each kind of file asks of them.
module _ (r : Bytes) (h : IsRecord r) where
  request_back : request_laid_out r ≡ true → record_of (record_line r) ≡ r
  unfolding request_laid_out
  request_back e = pick (three_kinds r e)
    where
      pick : (kind r ≡ 6) ⊎ (kind r ≡ 7) ⊎ (kind r ≡ 8) → record_of (record_line r) ≡ r
      pick (inl k) = use_line r h k (rw k at e)
      pick (inr (inl k)) = blob_line r h k (rw k at e)
      pick (inr (inr k)) = recovery_line r h k (rw k at e)

  requested_back : (s : RequestState) → request_state_fault s r ≡ none → record_of (record_line r) ≡ r
  unfolding blobfile_request_record blobfile_request_laid_out
  requested_back request_due e = request_back (unless_passed (request_laid_out r) malformed e)
  requested_back blob_file_due e =
      let p = unless_passed (blobfile_request_record r) malformed e in
      let k : eqb (kind r) 15 ≡ true = search conj in
      let f : blobfile_laid_out r ≡ true = search conj in
      file_line r h (eqb-true (kind r) 15 k) f
  requested_back (presenting c) e = pick (presented_is c r e).which
    where
      pick : ((kind r ≡ 9) × (certificate_laid_out r ≡ true) × (c.certificates < certificates_max)) ⊎ ((kind r ≡ 14) × (delegation_laid_out r ≡ true) × (c.delegations < delegations_max)) → record_of (record_line r) ≡ r
      pick (inl p) = certificate_line r h p.0 p.1
      pick (inr p) = delegation_line r h p.0 p.1

  alone_back : stands_alone r ≡ true → record_of (record_line r) ≡ r
  unfolding stands_alone
  alone_back e = request_back (and_left (request_laid_out r) (not (announces_blobfile r)) e)

  hinted_back : hint_record r ≡ true → record_of (record_line r) ≡ r
  unfolding hint_record
  hinted_back e = hint_line r h (eqb-true (kind r) 13 (and_left (eqb (kind r) 13) (hint_laid_out r) e)) (and_right (eqb (kind r) 13) (hint_laid_out r) e)

  -- a bundle's record by its kind
  module _ (P : Type 0) (fact : kind r ≡ 10 → fact_laid_out r ≡ true → P) (signature : kind r ≡ 11 → signature_laid_out r ≡ true → P) (policy : kind r ≡ 12 → policy_laid_out r ≡ true → P) where
    by_kind : bundle_record_laid_out r ≡ true → P
    unfolding bundle_record_laid_out
    by_kind e = pick (eqb (kind r) 10) refl (eqb (kind r) 11) refl (eqb (kind r) 12) refl
      where
        pick : (a : Bool) → eqb (kind r) 10 ≡ a → (b : Bool) → eqb (kind r) 11 ≡ b → (c : Bool) → eqb (kind r) 12 ≡ c → P
        pick true p b q c s = fact (eqb-true (kind r) 10 p) (rw p at e)
        pick false p true q c s = signature (eqb-true (kind r) 11 q) (rw (p, q) at e)
        pick false p false q true s = policy (eqb-true (kind r) 12 s) (rw (p, q, s) at e)
        pick false p false q false s = absurd (false≢true (rw (p, q, s) at e))

  bundled : (s : BundleState) → bundle_record_fault s r ≡ none → bundle_record_laid_out r ≡ true
  unfolding bundle_record_fault bundle_in_place
  bundled s e =
      let g = fault_passed (bundle_in_place s.last r) (bundle_has_room s.listed_count r) e in
      and_left (bundle_record_laid_out r) (in_order s.last (order_of r)) g.0

  bundled_back : (s : BundleState) → bundle_record_fault s r ≡ none → record_of (record_line r) ≡ r
  bundled_back s e = by_kind (record_of (record_line r) ≡ r) (fact_line r h) (signature_line r h) (policy_line r h) (bundled s e)

-- How many records
request_few : (rs : List Bytes) → so_far request_kind rs ≡ none → length rs ≤ request_records
unfolding request_weight total
request_few rs e =
    let t = total_room request_kind (request_weight 1 1 1 1) (request_room 1 1 1 1) (request_spent 1 1 1 1) request_due rs e in
    let c = weigh_one rs in
    omega arith
  where
    one : (r : Bytes) → request_weight 1 1 1 1 r ≡ 1
    one r = pick (eqb (kind r) 9) refl (eqb (kind r) 14) refl (eqb (kind r) 15) refl
      where
        pick : (b : Bool) → eqb (kind r) 9 ≡ b → (c : Bool) → eqb (kind r) 14 ≡ c → (d : Bool) → eqb (kind r) 15 ≡ d → request_weight 1 1 1 1 r ≡ 1
        pick true p c q d w = rw p
        pick false p true q d w = rw (p, q)
        pick false p false q true w = rw (p, q, w)
        pick false p false q false w = rw (p, q, w)

    weigh_one : (rs : List Bytes) → total (request_weight 1 1 1 1) rs ≡ length rs
    weigh_one [] = refl
    weigh_one (r ∷ rs) = let i = weigh_one rs in rw (one r) (omega arith)

each_few : (good : Bytes → Bool) (most : ℕ) (rs : List Bytes) → so_far (each_kind good most) rs ≡ none → length rs ≤ most
each_few good most rs e =
    let t = total_room (each_kind good most) (λ r. 1) (λ n. (most - n) * 1) (λ n r p. each_spent good most 1 n r p) 0 rs e in
    let c = total_count rs in
    omega arith

bundle_few : (rs : List Bytes) → so_far bundle_kind rs ≡ none → length rs ≤ bundle_records
bundle_few rs e =
    let t = total_room bundle_kind (λ r. 1) (bundle_room (λ o. 1)) (bundle_spent (λ o. 1)) bundle_start rs e in
    let c = total_count rs in
    omega arith

-- The laws that the theorems ask for.
pub request_lawful : Lawful request_kind
request_lawful =
    record {
      back = λ s r h e. requested_back r h s e;
      whole = told_record;
      one = record_line_one;
      ends = missing;
      few = λ rs h e. request_few rs e;
    }
  where
    missing : (s : RequestState) (f : ℕ) → request_end s ≡ some f → f ≡ malformed
    missing request_due f e = cc
    missing blob_file_due f e = cc
    missing (presenting c) f e = absurd (never (cc))

each_lawful : (good : Bytes → Bool) (most : ℕ) → ((r : Bytes) → IsRecord r → good r ≡ true → record_of (record_line r) ≡ r) → Lawful (each_kind good most)
each_lawful good most back =
    record {
      back = λ n r h e. back r h (fault_passed (good r) (ltb n most) e).0;
      whole = told_record;
      one = record_line_one;
      ends = λ n f e. absurd (never (cc));
      few = λ rs h e. each_few good most rs e;
    }

pub requests_lawful : Lawful requests_kind
requests_lawful = each_lawful stands_alone day_records alone_back

pub hints_lawful : Lawful hints_kind
hints_lawful = each_lawful hint_record hint_records hinted_back

pub bundle_lawful : Lawful bundle_kind
unfolding bundle_end
bundle_lawful =
    record {
      back = λ s r h e. bundled_back r h s e;
      whole = told_record;
      one = record_line_one;
      ends = λ s. missing (eqb s.last 3072);
      few = λ rs h e. bundle_few rs e;
    }
  where
    missing : (b : Bool) (f : ℕ) → unless b malformed ≡ some f → f ≡ malformed
    missing true f e = absurd (never (cc))
    missing false f e = cc

-- What is promised of a kind of file whose own fault is `fault`: its text reads back to the same bytes; a text that is accepted is the one that is
-- written for its file; two files without fault have different texts if they differ; what an entry point wrote the other one reads, both ways; a line that
-- is refused is the first bad one; its number is small.
pub record TextForm {S : Type 0} (k : FileKind S) (fault : Bytes → Option ℕ) : Type 0 where
  pub reads_back : (file : Bytes) → Every Octet file → fault file ≡ none → read_text k (text_by k.line file) ≡ read_as file
  pub is_written : (text file : Bytes) → read_text k text ≡ read_as file → (fault file ≡ none) × (text_by k.line file ≡ text) × Every Octet file
  pub tells_all : (a b : Bytes) → Every Octet a → Every Octet b → fault a ≡ none → fault b ≡ none → text_by k.line a ≡ text_by k.line b → a ≡ b
  pub written_read : (file b c : Bytes) (n : ℕ) → Every Octet file → (write_text k file b).reply ≡ produced n → length file ≤ length c → read_text_into k (take n (write_text k file b).buffer) c ≡ delivered file c none
  pub read_written : (text b c : Bytes) (n : ℕ) → (read_text_into k text b).reply ≡ produced n → length text ≤ length c → write_text k (take n (read_text_into k text b).buffer) c ≡ delivered text c none
  pub is_first : (text : Bytes) (n : ℕ) → read_text k text ≡ bad_line n → FirstBad k text n
  pub is_small : (text : Bytes) (n : ℕ) → read_text k text ≡ bad_line n → n ≤ k.most + 1

text_form : {S : Type 0} (k : FileKind S) → Lawful k → (fault : Bytes → Option ℕ) → ((file : Bytes) → kind_fault k file ≡ fault file) → TextForm k fault
text_form k law fault reader =
    record {
      reads_back = λ file o e. back file o e;
      is_written = λ text file e. let w = text_as_written k law text file e in (sym (reader file) ∙ w.0, w.1, w.2);
      tells_all = λ a b o p e f q. same_file a b (sym (back a o e) ∙ ap (read_text k) q ∙ back b p f);
      written_read = write_then_read k law;
      read_written = read_then_write k law;
      is_first = first_bad k law;
      is_small = bad_number k law;
    }
  where
    back : (file : Bytes) → Every Octet file → fault file ≡ none → read_text k (text_by k.line file) ≡ read_as file
    back file o e = text_read_back k law file o (reader file ∙ e)

    same_file : (a b : Bytes) → read_as a ≡ read_as b → a ≡ b
    same_file a b e = cc

pub acl_text : TextForm acl_kind acl_file_fault
acl_text = text_form acl_kind acl_lawful acl_file_fault acl_reader

pub request_text : TextForm request_kind (file_fault request_records (request_fault request_laid_out))
request_text = text_form request_kind request_lawful _ request_reader

pub requests_text : TextForm requests_kind (file_fault day_records (each_fault request_record_fault))
requests_text = text_form requests_kind requests_lawful _ requests_reader

pub bundle_text : TextForm bundle_kind (file_fault bundle_records bundle_fault)
bundle_text = text_form bundle_kind bundle_lawful _ bundle_reader

pub hints_text : TextForm hints_kind hints_file_fault
hints_text = text_form hints_kind hints_lawful _ hints_reader

-- The longest texts. Of a request file:
pub request_line : (s : RequestState) (r : Bytes) → IsRecord r → request_state_fault s r ≡ none → length (record_line r) ≤ request_weight request_line_max blobfile_line_max certificate_line_max delegation_line_max r
unfolding request_weight blobfile_request_record
request_line request_due r h e =
    let p = unless_passed (request_laid_out r) malformed e in
    let l = request_length r h p in
    let f = filed_most (announces_blobfile r) in
    pick (three_kinds r p) (omega arith)
  where
    filed_most : (b : Bool) → (if b then 9 else 0) ≤ 9
    filed_most true = omega arith
    filed_most false = omega arith

    pick : (kind r ≡ 6) ⊎ (kind r ≡ 7) ⊎ (kind r ≡ 8) → length (record_line r) ≤ request_line_max → length (record_line r) ≤ request_weight request_line_max blobfile_line_max certificate_line_max delegation_line_max r
    pick (inl k) l = rw k l
    pick (inr (inl k)) l = rw k l
    pick (inr (inr k)) l = rw k l
request_line blob_file_due r h e =
    let p = unless_passed (blobfile_request_record r) malformed e in
    let k = eqb-true (kind r) 15 (and_left (eqb (kind r) 15) (blobfile_request_laid_out r) p) in
    rw k (blobfile_length r h k)
request_line (presenting c) r h e = pick (presented_is c r e).which
  where
    pick : ((kind r ≡ 9) × (certificate_laid_out r ≡ true) × (c.certificates < certificates_max)) ⊎ ((kind r ≡ 14) × (delegation_laid_out r ≡ true) × (c.delegations < delegations_max)) → length (record_line r) ≤ request_weight request_line_max blobfile_line_max certificate_line_max delegation_line_max r
    pick (inl p) = let k = p.0 in rw k (certificate_length r h k)
    pick (inr p) = let k = p.0 in rw k (delegation_length r h k)

pub request_bound : (file : Bytes) → Every Octet file → kind_fault request_kind file ≡ none → length (text_by record_line file) ≤ request_text_max
request_bound file o e =
    let t = text_bound request_kind (request_weight request_line_max blobfile_line_max certificate_line_max delegation_line_max) request_line file o e in
    let a = t.0 in
    let w = total_room request_kind (request_weight request_line_max blobfile_line_max certificate_line_max delegation_line_max) (request_room request_line_max blobfile_line_max certificate_line_max delegation_line_max) (request_spent request_line_max blobfile_line_max certificate_line_max delegation_line_max) request_due (records file) t.1 in
    omega arith

-- the bounds of single requests, and of hints
each_bound : (good : Bytes → Bool) (most m : ℕ) → ((r : Bytes) → IsRecord r → good r ≡ true → length (record_line r) ≤ m) → (file : Bytes) → Every Octet file → kind_fault (each_kind good most) file ≡ none → length (text_by record_line file) ≤ most * m
each_bound good most m long file o e =
    let t = text_bound (each_kind good most) (λ r. m) (λ n r h p. long r h (fault_passed (good r) (ltb n most) p).0) file o e in
    let a = t.0 in
    let w = total_room (each_kind good most) (λ r. m) (λ n. (most - n) * m) (λ n r p. each_spent good most m n r p) 0 (records file) t.1 in
    let z : most - 0 ≡ most = omega arith in
    let y : total (λ r. m) (records file) ≤ most * m = rw z at w in
    omega arith

pub alone_length : (r : Bytes) → IsRecord r → stands_alone r ≡ true → length (record_line r) ≤ alone_line_max
unfolding stands_alone
alone_length r h e =
    let l = request_length r h (and_left (request_laid_out r) (not (announces_blobfile r)) e) in
    let f = not-true (announces_blobfile r) (and_right (request_laid_out r) (not (announces_blobfile r)) e) in
    let g : filed r ≡ 0 = rw f in
    omega arith

pub hinted_length : (r : Bytes) → IsRecord r → hint_record r ≡ true → length (record_line r) ≤ hint_line_max
unfolding hint_record
hinted_length r h e = hint_length r h (eqb-true (kind r) 13 (and_left (eqb (kind r) 13) (hint_laid_out r) e))

pub requests_bound : (file : Bytes) → Every Octet file → kind_fault requests_kind file ≡ none → length (text_by record_line file) ≤ requests_text_max
requests_bound = each_bound stands_alone day_records alone_line_max alone_length

pub hints_bound : (file : Bytes) → Every Octet file → kind_fault hints_kind file ≡ none → length (text_by record_line file) ≤ hints_text_max
hints_bound = each_bound hint_record hint_records hint_line_max hinted_length

-- the bound of a bundle: the longest line of each field
abbrev pub order_length : ℕ → ℕ
order_length o =
    if ltb o 2816 then 46 + length (spaced (name_at (o - 2561) field_names))
    else if ltb o 3072 then 15 + length (spaced (name_at (o - 2817) signature_names))
    else 64

pub bundle_line : (s : BundleState) (r : Bytes) → IsRecord r → bundle_record_fault s r ≡ none → length (record_line r) ≤ order_length (order_of r)
unfolding order_of fact_laid_out signature_laid_out
bundle_line s r h e = by_kind r h (length (record_line r) ≤ order_length (order_of r)) a_fact a_signature a_policy (bundled r h s e)
  where
    a_fact : kind r ≡ 10 → fact_laid_out r ≡ true → length (record_line r) ≤ order_length (order_of r)
    a_fact k l =
        let g : between 1 14 (byte 4 r) ≡ true = search conj in
        let low = leb-true 1 (byte 4 r) (and_left (leb 1 (byte 4 r)) (leb (byte 4 r) 14) g) in
        let high = leb-true (byte 4 r) 14 (and_right (leb 1 (byte 4 r)) (leb (byte 4 r) 14) g) in
        let t = fact_length r h k in
        let p : 10 * 256 + byte 4 r - 2561 ≡ byte 4 r - 1 = omega arith in
        rw (k, lt-ltb (10 * 256 + byte 4 r) 2816 (omega arith), p) t

    a_signature : kind r ≡ 11 → signature_laid_out r ≡ true → length (record_line r) ≤ order_length (order_of r)
    a_signature k l =
        let g : between 1 6 (byte 4 r) ≡ true = search conj in
        let low = leb-true 1 (byte 4 r) (and_left (leb 1 (byte 4 r)) (leb (byte 4 r) 6) g) in
        let high = leb-true (byte 4 r) 6 (and_right (leb 1 (byte 4 r)) (leb (byte 4 r) 6) g) in
        let t = signature_length r h k in
        let p : 11 * 256 + byte 4 r - 2817 ≡ byte 4 r - 1 = omega arith in
        rw (k, le-ltb (11 * 256 + byte 4 r) 2816 (omega arith), lt-ltb (11 * 256 + byte 4 r) 3072 (omega arith), p) t

    a_policy : kind r ≡ 12 → policy_laid_out r ≡ true → length (record_line r) ≤ order_length (order_of r)
    a_policy k l = let t = policy_length r h k l in rw k t

pub bundle_bound : (file : Bytes) → Every Octet file → kind_fault bundle_kind file ≡ none → length (text_by record_line file) ≤ bundle_text_max
unfolding ascii
bundle_bound file o e =
    let t = text_bound bundle_kind (λ r. order_length (order_of r)) bundle_line file o e in
    let a = t.0 in
    let w = total_room bundle_kind (λ r. order_length (order_of r)) (bundle_room order_length) (bundle_spent order_length) bundle_start (records file) t.1 in
    let x : bundle_room order_length bundle_start ≡ bundle_text_max = refl in
    omega arith
