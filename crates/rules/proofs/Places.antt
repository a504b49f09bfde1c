-- Reading an ACL's records one after the other: what a record without fault says of the reader's state, and a record in place, by whether
-- a record of kind 15 must come next.
use Prim.Native.Nat.{ℕ}
use native.Mathlib.Omega.{arith}
use mathlib.Core.Path.{◌≡◌, refl, sym, ◌∙◌, ap}
use mathlib.Core.List.{List}
use mathlib.Core.Option.{Option, none}
use mathlib.Core.Bool.{Bool, true, false, ◌&&◌, false≢true}
use lib.Dec.{eqb}
use borrow.Author.Tests.{eqb-true, eq-eqb}
use Rattle.rules.specs.Numbers.{malformed, too_many, open_archive}
use Rattle.std.specs.Prelude.{if◌then◌else◌}
use Rattle.rules.specs.Basics.{Bytes, kind, first_fault, scan}
use Rattle.rules.specs.Layout.{limit_laid_out, blobfile_laid_out}
use Rattle.rules.specs.Acl.{AclState, limit_key, limit_in_place, action_in_place, action_laid_out, blobfile_record, placed_under, placed_by_kind, in_place_under, in_place, has_room, keyed, after_record, record_fault_under, acl_record_fault, acl_end}
use Rattle.rules.proofs.Laws.{and_left, and_right, and_both, not_both, unless_passed, fault_none_every}

ruleset conj = (and_left, and_right, and_both)

-- no record of kind 15 must come next
pub placed : (s : AclState) (r : Bytes) → s.file_due ≡ false → in_place s r ≡ true → placed_by_kind s r ≡ true
unfolding in_place_under
placed s r d e = ap (λ (b : Bool). if b then blobfile_record r else placed_by_kind s r) (sym d) ∙ e

-- where one is
pub file_due_lem : (s : AclState) (r : Bytes) → s.file_due ≡ true → in_place s r ≡ true → (kind r ≡ 15) × (blobfile_laid_out r ≡ true)
unfolding in_place_under blobfile_record
file_due_lem s r d e =
    let f : (eqb (kind r) 15 && blobfile_laid_out r) ≡ true = ap (λ (b : Bool). if b then blobfile_record r else placed_by_kind s r) (sym d) ∙ e in
    (eqb-true (kind r) 15 (search conj), search conj)

-- a limit comes where no record of kind 15 must
pub limit_placed : (s : AclState) (r : Bytes) → kind r ≡ 2 → in_place s r ≡ true → (limit_laid_out r && limit_in_place s (limit_key r)) ≡ true
unfolding placed_under
limit_placed s r q e = pick s.file_due refl
  where
    pick : (b : Bool) → s.file_due ≡ b → (limit_laid_out r && limit_in_place s (limit_key r)) ≡ true
    pick true d = let k = (file_due_lem s r d e).0 in absurd (omega arith)
    pick false d = rw q at (placed s r d e)

-- the first fault of records read from a place on
abbrev pub acl_from : AclState → List Bytes → Option ℕ
acl_from s rs = scan acl_record_fault after_record acl_end s rs

pub record_in_place : (s : AclState) (r : Bytes) → acl_record_fault s r ≡ none → in_place s r ≡ true
unfolding record_fault_under
record_in_place s r e = unless_passed (in_place s r) malformed (fault_none_every _ e).0

pub record_has_room : (s : AclState) (r : Bytes) → acl_record_fault s r ≡ none → has_room s r ≡ true
unfolding record_fault_under
record_has_room s r e = unless_passed (has_room s r) too_many (fault_none_every _ e).1.0

pub record_keyed : (s : AclState) (r : Bytes) → acl_record_fault s r ≡ none → keyed s.is_open r ≡ true
unfolding record_fault_under
record_keyed s r e = unless_passed (keyed s.is_open r) open_archive (fault_none_every _ e).1.1.0

pub no_record_fault : (s : AclState) (r : Bytes) → in_place s r ≡ true → has_room s r ≡ true → keyed s.is_open r ≡ true → acl_record_fault s r ≡ none
unfolding record_fault_under first_fault
no_record_fault s r e d k = rw (e, d, k)

-- a group or an action comes where no record of kind 15 must
pub not_due : (s : AclState) (r : Bytes) → eqb (kind r) 15 ≡ false → in_place s r ≡ true → (s.file_due ≡ false) × (placed_by_kind s r ≡ true)
not_due s r n e = pick s.file_due refl
  where
    pick : (b : Bool) → s.file_due ≡ b → (s.file_due ≡ false) × (placed_by_kind s r ≡ true)
    pick true d = let k = (file_due_lem s r d e).0 in absurd (not_both (eqb (kind r) 15) (eq-eqb (kind r) 15 k) n)
    pick false d = (d, placed s r d e)

-- kind 15 comes where one must
pub due_here : (s : AclState) (r : Bytes) → eqb (kind r) 15 ≡ true → in_place s r ≡ true → (s.file_due ≡ true) × (blobfile_record r ≡ true)
unfolding in_place_under placed_under action_laid_out
due_here s r n e = pick s.file_due refl
  where
    pick : (b : Bool) → s.file_due ≡ b → (s.file_due ≡ true) × (blobfile_record r ≡ true)
    pick true d = (d, ap (λ (t : Bool). if t then blobfile_record r else placed_by_kind s r) (sym d) ∙ e)
    pick false d =
        let k = eqb-true (kind r) 15 n in
        let f : (false && action_in_place s) ≡ true = rw k at (placed s r d e) in
        absurd (false≢true f)

-- a record that is no group's begins none
pub same_count : (s : AclState) (r : Bytes) → eqb (kind r) 1 ≡ false → (after_record s r).groups ≡ s.groups
unfolding after_record
same_count s r q = pick (eqb (kind r) 2) refl (eqb (kind r) 15) refl
  where
    pick : (b : Bool) → eqb (kind r) 2 ≡ b → (c : Bool) → eqb (kind r) 15 ≡ c → (after_record s r).groups ≡ s.groups
    pick true d c t = rw (q, d)
    pick false d true t = rw (q, d, t)
    pick false d false t = rw (q, d, t)
