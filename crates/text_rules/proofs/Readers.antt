-- The readers of the five kinds of file find the faults that the gate, the desk and the day program find.
use Prim.Native.Nat.{ℕ, zero, suc, ◌+◌, ◌*◌, ◌/◌, ◌%◌, ◌≤◌}
use native.Mathlib.Omega.{arith}
use mathlib.Core.Path.{◌≡◌, refl, sym, ◌∙◌, ap}
use mathlib.Core.List.{List, [], ◌∷◌}
use mathlib.Core.Option.{Option, none, some}
use mathlib.Core.Bool.{Bool, true, false}
use lib.ListN.{length, drop}
use lib.Dec.{eqb, leb}
use borrow.Author.Tests.{leb-true, lt-ltb}
use Rattle.rules.specs.Sizes.{record_bytes, request_records, bundle_records, hint_records, day_records}
use Rattle.rules.specs.Numbers.{bad_length, malformed}
use Rattle.std.specs.Prelude.{if◌then◌else◌}
use Rattle.rules.specs.Basics.{Bytes, implies, chunks, records, fits, unless, or_next, first_fault, record_fault, each_fault, scan, file_fault}
use Rattle.rules.specs.Acl.{announces_blobfile, acl_fault_under, acl_file_fault}
use Rattle.rules.specs.Request.{request_laid_out, stands_alone, request_record_fault, PresentedCounts, presented_start, presented_record_fault, after_presented, presented_end, presented_fault, blobfile_request_record, blobfile_follows, request_fault, hint_record, hint_fault, hints_fault, hints_file_fault}
use Rattle.rules.specs.Bundle.{bundle_fault}
use Rattle.rules.proofs.Laws.{and_right}
use Rattle.text_rules.specs.Kinds.{fault_from, records_fault, kind_fault, acl_kind, blob_file_due, presenting, request_kind, each_kind, requests_kind, bundle_kind, hints_kind}

or_none : (o : Option ℕ) → or_next o none ≡ o
or_none none = refl
or_none (some f) = refl

-- An ACL.
pub acl_reader : (file : Bytes) → kind_fault acl_kind file ≡ acl_file_fault file
unfolding acl_fault_under
acl_reader file = refl

-- A bundle.
pub bundle_reader : (file : Bytes) → kind_fault bundle_kind file ≡ file_fault bundle_records bundle_fault file
unfolding bundle_fault
bundle_reader file = refl

-- A request with what is presented, as the gate reads it when any request may stand there.
presented_reader : (c : PresentedCounts) (rs : List Bytes) → fault_from request_kind (presenting c) rs ≡ scan presented_record_fault after_presented presented_end c rs
unfolding scan
presented_reader c [] = refl
presented_reader c (r ∷ rs) = ap (or_next (presented_record_fault c r)) (presented_reader (after_presented c r) rs)

after_first : (b : Bool) (rs : List Bytes) → fault_from request_kind (if b then blob_file_due else presenting presented_start) rs
    ≡ or_next (unless (implies b (blobfile_follows rs)) malformed) (or_next (presented_fault (if b then drop 1 rs else rs)) none)
unfolding scan presented_fault blobfile_follows
after_first false rs = presented_reader presented_start rs ∙ sym (or_none (presented_fault rs))
after_first true [] = refl
after_first true (x ∷ xs) =
    ap (or_next (unless (blobfile_request_record x) malformed)) (presented_reader presented_start xs ∙ sym (or_none (presented_fault xs)))

request_records_lem : (rs : List Bytes) → records_fault request_kind rs ≡ request_fault request_laid_out rs
unfolding scan request_fault first_fault
request_records_lem [] = refl
request_records_lem (r ∷ rs) = ap (or_next (unless (request_laid_out r) malformed)) (after_first (announces_blobfile r) rs)

pub request_reader : (file : Bytes) → kind_fault request_kind file ≡ file_fault request_records (request_fault request_laid_out) file
unfolding file_fault
request_reader file = ap (λ (o : Option ℕ). first_fault (unless (fits request_records file) bad_length ∷ o ∷ [])) (request_records_lem (records file))

-- Records that each stand by themselves.
chunks_length : (n : ℕ) (bs : Bytes) → length (chunks n bs) ≡ n
unfolding chunks
chunks_length zero bs = refl
chunks_length (suc n) bs = ap suc (chunks_length n (drop record_bytes bs))

module _ (good : Bytes → Bool) (most : ℕ) where
  abbrev alone_fault : Bytes → Option ℕ
  alone_fault r = unless (good r) malformed

  each_records : (n : ℕ) (rs : List Bytes) → n + length rs ≤ most → fault_from (each_kind good most) n rs ≡ each_fault alone_fault rs
  unfolding scan each_fault first_fault record_fault
  each_records n [] l = refl
  each_records n (r ∷ rs) l =
      rw (lt-ltb n most (omega arith), or_none (unless (good r) malformed)) (ap (or_next (unless (good r) malformed)) (each_records (n + 1) rs (omega arith)))

  fit_few : (file : Bytes) → fits most file ≡ true → length (records file) ≤ most
  unfolding fits records
  fit_few file e =
      let l = leb-true (length file) (most * record_bytes) (and_right (eqb (length file % record_bytes) 0) (leb (length file) (most * record_bytes)) e) in
      let c = chunks_length (length file / record_bytes) file in
      omega arith

  pub each_reader : (file : Bytes) → kind_fault (each_kind good most) file ≡ file_fault most (each_fault alone_fault) file
  unfolding file_fault first_fault records
  each_reader file = pick (fits most file) refl
    where
      pick : (b : Bool) → fits most file ≡ b → kind_fault (each_kind good most) file ≡ file_fault most (each_fault alone_fault) file
      pick false e = rw e
      pick true e = rw e (ap (λ (o : Option ℕ). or_next o none) (each_records 0 (records file) (let l = fit_few file e in omega arith)))

-- requests that stand alone, as the day program reads them
pub requests_reader : (file : Bytes) → kind_fault requests_kind file ≡ file_fault day_records (each_fault request_record_fault) file
unfolding request_record_fault
requests_reader file = each_reader stands_alone day_records file

-- hints
pub hints_reader : (file : Bytes) → kind_fault hints_kind file ≡ hints_file_fault file
unfolding hints_fault hint_fault
hints_reader file = each_reader hint_record hint_records file
