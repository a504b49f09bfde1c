-- What follows from files without fault: the request has no fault and is short, the ACL has no fault, the hints are few.
use Prim.Native.Nat.{ℕ, ◌*◌, ◌%◌, ◌≤◌}
use native.Mathlib.Omega.{arith}
use mathlib.Core.Path.{◌≡◌, refl, sym, ◌∙◌, ap}
use mathlib.Core.List.{[]}
use mathlib.Core.Option.{Option, none, some}
use mathlib.Core.Bool.{Bool, true, false, ◌&&◌}
use borrow.Author.Tests.{ltb-true, ltb-false, leb-true}
use lib.ListN.{length}
use lib.Dec.{eqb, ltb, leb}
use Rattle.std.specs.Prelude.{Result, Ok, Err}
use Rattle.rules.specs.Sizes.{record_bytes, hash_bytes, acl_records, request_records, groups_max, hint_records}
use Rattle.rules.specs.Numbers.{bad_length, malformed}
use Rattle.rules.specs.Basics.{Bytes, records, fits, or_next}
use Rattle.rules.specs.Acl.{acl_fault}
use Rattle.rules.specs.Request.{request_laid_out, request_fault, hints_of, use_of, reduce_acl, expand_acl}
use Rattle.rules.specs.Gate.{lengths_fit, request_files, narrow_files, expand_files}
use Rattle.rules.proofs.Laws.{never, and_left, and_right, unless_passed, fault_none_every}
use Rattle.rules.proofs.Rows.{first, no_rows}
use Rattle.rules.proofs.Few.{narrow_few}
use Rattle.refusals.specs.declared.Refusal.{Refusal}
use Rattle.refusals.specs.Refusals.{refusal_number}
use Rattle.files.specs.Faults.{fault_as}
use Rattle.request_reader.specs.Following.{following_fault}
use Rattle.request_reader.specs.Parts.{Sound}

-- A request file without fault has a record, and those that follow have no fault.
request_begun : (test : Bytes → Bool) (s : Bytes) → request_fault test (records s) ≡ none → 64 ≤ length s
unfolding request_fault
request_begun test s e = pick (ltb (length s) 64) refl
  where
    pick : (b : Bool) → ltb (length s) 64 ≡ b → 64 ≤ length s
    pick true d =
        let n : records s ≡ [] = no_rows s (ltb-true (length s) 64 d) in
        let c : some malformed ≡ none = rw n at e in
        absurd (never (cc))
    pick false d = ltb-false (length s) 64 d

both_none : (a b : Option ℕ) → a ≡ none → b ≡ none → or_next a b ≡ none
both_none a b e d = rw (e, d)

pub sound_request : (test : Bytes → Bool) (s : Bytes) → request_fault test (records s) ≡ none → length s ≤ 4032 → Sound s
unfolding request_fault following_fault
sound_request test s e l =
    let h = request_begun test s e in
    let f = fault_none_every _ (sym (ap (request_fault test) (first s h)) ∙ e) in
    (h, (l, both_none _ _ f.1.0 f.1.1.0))

-- A request file that fits is short: at most 63 records, as many as the bits of a set of delegations less one.
pub fitting_request : (km0 acl req : Bytes) → lengths_fit km0 acl req ≡ true → length req ≤ 4032
unfolding fits
fitting_request km0 acl req e =
    let f : fits request_records req ≡ true = and_right (eqb (length km0) hash_bytes && fits acl_records acl) (fits request_records req) e in
    let a = leb-true (length req) (request_records * record_bytes) (and_right (eqb (length req % record_bytes) 0) (leb (length req) (request_records * record_bytes)) f) in
    omega arith

-- What follows from a request's files without fault: the request has no fault and is short, the ACL has no fault.
pub files_sound : (km0 acl req : Bytes) → request_files km0 acl req ≡ none → Sound req × (acl_fault (records acl) ≡ none)
files_sound km0 acl req e =
    let h = fault_none_every _ e in
    (sound_request request_laid_out req h.1.1.0 (fitting_request km0 acl req (unless_passed (lengths_fit km0 acl req) bad_length h.0)), h.1.0)

-- What follows from a narrowing's files without fault: the request has no fault and is short, the ACL has no fault, the hints are few.
pub narrow_sound : (km0 acl req new hints : Bytes) → narrow_files km0 acl req new hints ≡ none → Sound req × (acl_fault (records acl) ≡ none) × (length (hints_of hints) ≤ groups_max)
narrow_sound km0 acl req new hints e =
    let h = fault_none_every _ e in
    let t = unless_passed (lengths_fit km0 acl req && fits acl_records new && fits hint_records hints) bad_length h.0 in
    let f = and_left (lengths_fit km0 acl req) (fits acl_records new) (and_left (lengths_fit km0 acl req && fits acl_records new) (fits hint_records hints) t) in
    (sound_request (use_of reduce_acl) req h.1.1.0 (fitting_request km0 acl req f), h.1.0, narrow_few km0 acl req new hints e)

pub expand_sound : (km0 acl req new : Bytes) → expand_files km0 acl req new ≡ none → Sound req × (acl_fault (records acl) ≡ none)
expand_sound km0 acl req new e =
    let h = fault_none_every _ e in
    let t = unless_passed (lengths_fit km0 acl req && fits acl_records new) bad_length h.0 in
    (sound_request (use_of expand_acl) req h.1.1.0 (fitting_request km0 acl req (and_left (lengths_fit km0 acl req) (fits acl_records new) t)), h.1.0)

-- What a call's files came to, by what the code found in them.
module _ {A : Type 0} (files : Option ℕ) (x : Result A Refusal) (e : fault_as x ≡ files) where
  pub no_fault : (a : A) → x ≡ Ok a → files ≡ none
  no_fault a p = sym e ∙ ap fault_as p

  pub a_fault : (why : Refusal) → x ≡ Err why → files ≡ some (refusal_number why)
  a_fault why p = sym e ∙ ap fault_as p
