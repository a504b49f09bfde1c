-- "a record of kind 15 directly after a MakeBlob or MakeArchiveBlob action whose new flag 6 says it is present": in an ACL that is read without fault
-- every such action is followed by it, it is what the action's blobfile says, and no other action has one. Two wrong products that this rules out: one
-- that takes an ACL whose end comes where kind 15 is due, and one that lets another record stand between them.
use Prim.Native.Nat.{ℕ}
use mathlib.Core.Path.{◌≡◌, refl, sym, ◌∙◌, ap}
use mathlib.Core.List.{List, [], ◌∷◌, ◌++◌}
use mathlib.Core.Option.{Option, none, some}
use mathlib.Core.Logic.{◌⊎◌, inl, inr}
use mathlib.Core.Bool.{Bool, true, false, false≢true}
use lib.Dec.{eqb}
use borrow.Author.Tests.{eqb-true}
use Rattle.rules.specs.Numbers.{malformed}
use Rattle.std.specs.Prelude.{if◌then◌else◌}
use Rattle.rules.specs.Basics.{Bytes, kind, scan, records}
use Rattle.rules.specs.Layout.{blobfile_laid_out}
use Rattle.rules.specs.Acl.{blobfile_rule_of, blobfile_rule_next, AclState, acl_start, action_laid_out, announces_blobfile, blobfile_record, placed_under, placed_by_kind, in_place_under, in_place, action_added, after_record, record_fault_under, acl_record_fault, acl_end, acl_fault_under, acl_fault}
use Rattle.rules.proofs.Laws.{never, and_left, unless_passed, or_next_first, or_next_next, fault_none_every}

-- the rest of an ACL read from a place without fault
abbrev read : AclState → List Bytes → Option ℕ
read s rs = scan acl_record_fault after_record acl_end s rs

-- the records after some are read from some place
read_from : (s : AclState) (before rs : List Bytes) → read s (before ++ rs) ≡ none → (t : AclState) × (read t rs ≡ none)
unfolding scan
read_from s [] rs e = (s, e)
read_from s (r ∷ before) rs e = read_from (after_record s r) before rs (or_next_next (acl_record_fault s r) _ e)

-- where kind 15 is due, it comes
due_comes : (s : AclState) (rs : List Bytes) → s.file_due ≡ true → read s rs ≡ none → (file : Bytes) × (rest : List Bytes) × (rs ≡ file ∷ rest) × (blobfile_record file ≡ true)
unfolding scan record_fault_under in_place_under
due_comes s [] d e = let x : some malformed ≡ none = rw d at e in absurd (never (cc))
due_comes s (r ∷ rs) d e =
    let h = fault_none_every _ (or_next_first (acl_record_fault s r) _ e) in
    let p : in_place s r ≡ true = unless_passed (in_place s r) malformed h.0 in
    (r, rs, refl, rw d at p)

not_taken : (b x y : Bool) → b ≡ false → (if b then x else y) ≡ true → y ≡ true
not_taken true x y d e = absurd (false≢true (sym d))
not_taken false x y d e = e

-- where no record of kind 15 must come, none comes
undue_absent : (s : AclState) (rs : List Bytes) → s.file_due ≡ false → read s rs ≡ none → blobfile_rule_next rs ≡ none
unfolding scan record_fault_under in_place_under placed_under action_laid_out blobfile_rule_next
undue_absent s [] d e = refl
undue_absent s (r ∷ rs) d e =
    let h = fault_none_every _ (or_next_first (acl_record_fault s r) _ e) in
    let p : in_place s r ≡ true = unless_passed (in_place s r) malformed h.0 in
    pick (eqb (kind r) 15) refl (not_taken s.file_due (blobfile_record r) (placed_by_kind s r) d p)
  where
    pick : (b : Bool) → eqb (kind r) 15 ≡ b → placed_by_kind s r ≡ true → blobfile_rule_next (r ∷ rs) ≡ none
    pick true x p = let k : kind r ≡ 15 = eqb-true (kind r) 15 x in let f : false ≡ true = rw k at p in absurd (false≢true f)
    pick false x p = rw x

-- a MakeBlob or MakeArchiveBlob record
abbrev pub IsBlobAction : Bytes → Type 0
IsBlobAction r = (kind r ≡ 4) ⊎ (kind r ≡ 5)

after_action : (s : AclState) (r : Bytes) → IsBlobAction r → after_record s r ≡ action_added s r
unfolding after_record
after_action s r (inl k) = rw k
after_action s r (inr k) = rw k

file_says : (file : Bytes) (rest : List Bytes) → blobfile_record file ≡ true → blobfile_rule_next (file ∷ rest) ≡ some (blobfile_rule_of file)
unfolding blobfile_record blobfile_rule_next
file_says file rest e = rw (and_left (eqb (kind file) 15) (blobfile_laid_out file) e)

-- Of an ACL without fault, any MakeBlob or MakeArchiveBlob action, with the records before and after it.
rest_read : (acl : Bytes) (sound : acl_fault (records acl) ≡ none) (before : List Bytes) (r : Bytes) (after : List Bytes) (parted : records acl ≡ before ++ (r ∷ after)) (action : IsBlobAction r) → (t : AclState) × (read (action_added t r) after ≡ none)
unfolding acl_fault_under scan
rest_read acl sound before r after parted action =
    let t = read_from acl_start before (r ∷ after) (rw parted at sound) in
    let u = or_next_next (acl_record_fault t.0 r) (read (after_record t.0 r) after) t.1 in
    (t.0, rw (after_action t.0 r action) at u)

-- Where it announces kind 15, that comes next, well formed, and is what its blobfile says; ..
pub file_follows : (acl : Bytes) (sound : acl_fault (records acl) ≡ none) (before : List Bytes) (r : Bytes) (after : List Bytes) (parted : records acl ≡ before ++ (r ∷ after)) (action : IsBlobAction r) → announces_blobfile r ≡ true → (file : Bytes) × (rest : List Bytes) × (after ≡ file ∷ rest) × (blobfile_record file ≡ true) × (blobfile_rule_next after ≡ some (blobfile_rule_of file))
file_follows acl sound before r after parted action a =
    let w = due_comes (action_added (rest_read acl sound before r after parted action).0 r) after a (rest_read acl sound before r after parted action).1 in
    (w.0, w.1, w.2, w.3, ap blobfile_rule_next w.2 ∙ file_says w.0 w.1 w.3)

-- An action without such a record has no blobfile.
pub file_absent : (acl : Bytes) (sound : acl_fault (records acl) ≡ none) (before : List Bytes) (r : Bytes) (after : List Bytes) (parted : records acl ≡ before ++ (r ∷ after)) (action : IsBlobAction r) → announces_blobfile r ≡ false → blobfile_rule_next after ≡ none
file_absent acl sound before r after parted action a = undue_absent (action_added (rest_read acl sound before r after parted action).0 r) after a (rest_read acl sound before r after parted action).1
