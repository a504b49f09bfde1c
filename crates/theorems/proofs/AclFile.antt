-- Where the groups and actions of a sound ACL file come from: each is read off a record of that file which is well laid out. Two wrong products that this
-- rules out: a reader that makes up an action, and one that takes a malformed record for an action.
use mathlib.Core.Path.{◌≡◌, refl}
use mathlib.Core.List.{List, [], ◌∷◌}
use mathlib.Core.Option.{Option, none}
use mathlib.Core.Bool.{Bool, true, false, ◌&&◌}
use lib.Dec.{eqb}
use borrow.Author.Tests.{eqb-true}
use Rattle.rules.specs.Sizes.{hash_bytes}
use Rattle.rules.specs.Basics.{Bytes, Every, part, number, kind, flag, optional, scan}
use Rattle.rules.specs.Layout.{group_laid_out}
use Rattle.rules.specs.Acl.{BlobfileRule, Action, Group, action_of, blobfile_rule_next, actions_of, groups_of, AclState, acl_start, action_laid_out, action_in_place, placed_under, in_place, after_record, acl_record_fault, acl_fault_under, acl_fault}
use Rattle.rules.proofs.Places.{acl_from, record_in_place, not_due}
use Rattle.rules.proofs.Laws.{and_left, or_next_first, or_next_next}

module _ (P : Bytes → Type 0) where
  -- an action that is read off a record with P, and a record of kind 15 besides where it has blobfile
  abbrev pub ActionRead : Action → Type 0
  ActionRead a = (r : Bytes) × (f : Option BlobfileRule) × P r × (action_laid_out r ≡ true) × (action_of r f ≡ a)

  -- a group whose own record has P, and whose actions are read off such records
  pub record GroupRead (g : Group) : Type 0 where
    pub head : Bytes
    pub holds : P head
    pub laid_out : group_laid_out head ≡ true
    pub certifier_read : g.certifier ≡ optional (flag 0 head) (part 4 hash_bytes head)
    pub mechanism_read : g.mechanism ≡ optional (flag 1 head) (number 24 2 head)
    pub actions_read : Every ActionRead g.actions

  actions_read_lem : (s : AclState) (rs : List Bytes) → acl_from s rs ≡ none → Every P rs → Every ActionRead (actions_of rs)
  unfolding scan actions_of placed_under
  actions_read_lem s [] e h = tt
  actions_read_lem s (r ∷ rs) e h =
      pick (eqb (kind r) 1) refl (eqb (kind r) 2) refl (eqb (kind r) 15) refl (record_in_place s r (or_next_first (acl_record_fault s r) _ e))
      (actions_read_lem (after_record s r) rs (or_next_next (acl_record_fault s r) _ e) h.1)
    where
      pick : (b : Bool) → eqb (kind r) 1 ≡ b → (c : Bool) → eqb (kind r) 2 ≡ c → (o : Bool) → eqb (kind r) 15 ≡ o → in_place s r ≡ true → Every ActionRead (actions_of rs) → Every ActionRead (actions_of (r ∷ rs))
      pick true p c q o u d f = rw p tt
      pick false p true q o u d f = rw (p, q) f
      pick false p false q true u d f = rw (p, q, u) f
      pick false p false q false u d f =
          let t : (action_laid_out r && action_in_place s) ≡ true = rw (p, q) at (not_due s r u d).1 in
          rw (p, q, u) ((r, blobfile_rule_next rs, h.0, and_left (action_laid_out r) (action_in_place s) t, refl), f)

  groups_read : (s : AclState) (rs : List Bytes) → acl_from s rs ≡ none → Every P rs → Every GroupRead (groups_of rs)
  unfolding scan groups_of placed_under
  groups_read s [] e h = tt
  groups_read s (r ∷ rs) e h =
      pick (eqb (kind r) 1) refl (record_in_place s r (or_next_first (acl_record_fault s r) _ e))
      (groups_read (after_record s r) rs (or_next_next (acl_record_fault s r) _ e) h.1)
      (actions_read_lem (after_record s r) rs (or_next_next (acl_record_fault s r) _ e) h.1)
    where
      pick : (b : Bool) → eqb (kind r) 1 ≡ b → in_place s r ≡ true → Every GroupRead (groups_of rs) → Every ActionRead (actions_of rs) → Every GroupRead (groups_of (r ∷ rs))
      pick true p d f a =
          let k = eqb-true (kind r) 1 p in
          let t : group_laid_out r ≡ true = rw p at (not_due s r (rw k) d).1 in
          rw p (record { head = r; holds = h.0; laid_out = t; certifier_read = refl; mechanism_read = refl; actions_read = a }, f)
      pick false p d f a = rw p f

  pub acl_read : (rs : List Bytes) → acl_fault rs ≡ none → Every P rs → Every GroupRead (groups_of rs)
  unfolding acl_fault_under
  acl_read rs e h = groups_read acl_start rs e h
