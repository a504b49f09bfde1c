-- "No open recovery action without a key": in an ACL that is read without fault, no group without a certifier has a MakeArchiveBlob action that lacks
-- kahash. Two wrong products that this rules out: one that looks at the first action of a group alone, and one that takes a group for closed because
-- the group before it was.
use Prim.Native.Nat.{ℕ}
use mathlib.Core.Path.{◌≡◌, refl}
use mathlib.Core.List.{List, [], ◌∷◌}
use mathlib.Core.Option.{Option, none}
use mathlib.Core.Bool.{Bool, true, false, false≢true}
use lib.Dec.{eqb}
use Rattle.rules.specs.Numbers.{malformed, open_archive}
use Rattle.rules.specs.Basics.{Bytes, Every, kind, flag, optional, present, scan, records}
use Rattle.rules.specs.Acl.{BlobfileRule, action_of, blobfile_rule_next, actions_of, group_of, groups_of, acl_of, AclState, acl_start, action_laid_out, action_in_place, blobfile_record, placed_under, in_place_under, in_place, keyed, after_record, record_fault_under, acl_record_fault, acl_end, acl_fault_under, acl_fault}
use Rattle.rules.proofs.Laws.{never, and_left, implied, unless_passed, or_next_first, or_next_next, fault_none_every}
use Rattle.theorems.specs.Narrowings.{HasKey, Closed}

-- a field that is not there is not announced
unannounced : {A : Type 0} (b : Bool) (a : A) → optional b a ≡ none → b ≡ false
unannounced true a e = absurd (never (cc))
unannounced false a e = refl

announced : {A : Type 0} (b : Bool) (a : A) → b ≡ true → present (optional b a) ≡ true
announced true a e = refl
announced false a e = e

-- an action record that is in place, and keyed in an open group
action_keyed : (r : Bytes) (f : Option BlobfileRule) → action_laid_out r ≡ true → keyed true r ≡ true → HasKey (action_of r f)
unfolding action_laid_out action_of keyed
action_keyed r f e d = pick (eqb (kind r) 3) refl (eqb (kind r) 4) refl (eqb (kind r) 5) refl
  where
    pick : (a : Bool) → eqb (kind r) 3 ≡ a → (b : Bool) → eqb (kind r) 4 ≡ b → (c : Bool) → eqb (kind r) 5 ≡ c → HasKey (action_of r f)
    pick true x b y c z = rw x tt
    pick false x true y c z = rw (x, y) tt
    pick false x false y true z = rw (x, y) (announced (flag 0 r) _ (implied (eqb (kind r) 5) (flag 0 r) d z))
    pick false x false y false z = let g : false ≡ true = rw (x, y, z) at e in absurd (false≢true g)

-- a record in place that is neither a group, nor a limit, nor of kind 15 is an action
action_placed : (s : AclState) (r : Bytes) → in_place s r ≡ true → eqb (kind r) 1 ≡ false → eqb (kind r) 2 ≡ false → eqb (kind r) 15 ≡ false → action_laid_out r ≡ true
unfolding in_place_under blobfile_record placed_under
action_placed s r e x y z = pick s.file_due refl
  where
    pick : (b : Bool) → s.file_due ≡ b → action_laid_out r ≡ true
    pick true d = let f : false ≡ true = rw (d, z) at e in absurd (false≢true f)
    pick false d = and_left (action_laid_out r) (action_in_place s) (rw (d, x, y) at e)

-- the rest of an ACL read from a place without fault
abbrev read : AclState → List Bytes → Option ℕ
read s rs = scan acl_record_fault after_record acl_end s rs

-- its groups are closed; and, where the group begun is open, so are the actions left of that
read_closed : (s : AclState) (rs : List Bytes) → read s rs ≡ none → Every Closed (groups_of rs) × (s.is_open ≡ true → Every HasKey (actions_of rs))
unfolding scan record_fault_under after_record groups_of actions_of
read_closed s [] e = (tt, λ o. tt)
read_closed s (r ∷ rs) e =
    let later = or_next_next (acl_record_fault s r) (read (after_record s r) rs) e in
    let h = fault_none_every _ (or_next_first (acl_record_fault s r) (read (after_record s r) rs) e) in
    let p : in_place s r ≡ true = unless_passed (in_place s r) malformed h.0 in
    let k : keyed s.is_open r ≡ true = unless_passed (keyed s.is_open r) open_archive h.1.1.0 in
    pick (eqb (kind r) 1) refl (eqb (kind r) 2) refl (eqb (kind r) 15) refl p k (read_closed (after_record s r) rs later)
  where
    pick : (a : Bool) → eqb (kind r) 1 ≡ a → (b : Bool) → eqb (kind r) 2 ≡ b → (c : Bool) → eqb (kind r) 15 ≡ c → in_place s r ≡ true → keyed s.is_open r ≡ true
        → Every Closed (groups_of rs) × ((after_record s r).is_open ≡ true → Every HasKey (actions_of rs))
        → Every Closed (groups_of (r ∷ rs)) × (s.is_open ≡ true → Every HasKey (actions_of (r ∷ rs)))
    pick true x b y c z p k f =
        let first : Closed (group_of r rs) = λ n. f.1 (rw (x, unannounced (flag 0 r) _ n)) in
        (rw x (first, f.0), λ o. rw x tt)
    pick false x true y c z p k f = (rw x f.0, λ o. rw (x, y) (f.1 (rw (x, y) o)))
    pick false x false y true z p k f = (rw x f.0, λ o. rw (x, y, z) (f.1 (rw (x, y, z) o)))
    pick false x false y false z p k f = (
      rw x f.0,
      λ o. rw (x, y, z) (action_keyed r (blobfile_rule_next rs) (action_placed s r p x y z) (rw o at k), f.1 (rw (x, y, z) o)),
    )

-- Every group of an ACL that has no fault is closed.
pub acl_closed : (acl : Bytes) → acl_fault (records acl) ≡ none → Every Closed (acl_of acl)
unfolding acl_fault_under
acl_closed acl e = (read_closed acl_start (records acl) e).0
