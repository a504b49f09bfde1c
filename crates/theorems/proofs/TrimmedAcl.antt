-- The trimmed ACL, record by record (request l): it is read without fault, fails none of the steps, and each of its groups is an old one without the
-- actions and bits that failed.
use Prim.Native.Nat.{ℕ, suc, ◌+◌, ◌≤◌, ◌<◌}
use native.Mathlib.Omega.{arith}
use mathlib.Core.Path.{◌≡◌, refl, sym, ◌∙◌, ap}
use mathlib.Core.List.{List, [], ◌∷◌, ◌++◌, map}
use mathlib.Core.Option.{Option, none}
use mathlib.Core.Bool.{Bool, true, false, not, ◌&&◌, false≢true}
use lib.ListN.{length, take, drop}
use lib.Dec.{eqb, ltb}
use borrow.Author.Tests.{eqb-true, eq-eqb, ltb-true, lt-ltb, not-true}
use Rattle.rules.specs.Sizes.{groups_max, actions_max}
use Rattle.std.specs.Prelude.{if◌then◌else◌}
use Rattle.rules.specs.Basics.{Bytes, implies, Every, number, kind, flag, unless, scan}
use Rattle.rules.specs.Numbers.{malformed}
use Rattle.rules.specs.Layout.{group_laid_out, limit_laid_out}
use Rattle.rules.specs.Acl.{BlobfileRule, action_of, blobfile_rule_next, announces_blobfile, limits_of, actions_of, group_of, groups_of, AclState, acl_start, limit_key, among, limit_in_place, action_laid_out, blobfile_record, placed_under, placed_by_kind, in_place_under, in_place, has_room_under, keyed, after_record, acl_record_fault, acl_end, acl_fault_under, acl_fault}
use Rattle.rules.specs.Request.{Hint, hint_of, hint_record}
use Rattle.rules.specs.Written.{Octets, big_endian, hint_bytes}
use Rattle.rules.specs.Bundle.{policy_of}
use Rattle.rules.specs.Desk.{class_of, policy_admits, action_failure, officers_group, group_failure, acl_failure}
use Rattle.rules.specs.Trim.{kept_bits, with_bits, is_checked, action_passes, stays, trimmed_record, kept_before, trimmed_from, kept_indices, hints_from}
use Rattle.theorems.specs.Trimmed.{ActionsTrimmed, no_action, keeping, removing, GroupTrimmed, GroupsTrimmed, no_group_lem, group}
use Rattle.rules.proofs.Laws.{and_left, and_right, and_both, every_map, or_next_first, or_next_next, unless_passed, fault_none_map}
use Rattle.rules.proofs.Joined.{Whole}
use Rattle.rules.proofs.Written.{octets_append, take_octets, drop_octets, big_endian_octets, hint_whole, hint_read, hint_laid_out_lem, hint_octets}
use Rattle.rules.proofs.Bits.{kept_below_lem}
use Rattle.rules.proofs.Places.{limit_placed, acl_from, record_in_place, record_has_room, record_keyed, no_record_fault, not_due, due_here, same_count}
use Rattle.rules.proofs.Trim.{fresh_group, group_places, places_below}
use Rattle.theorems.proofs.Lists.{every_fault_none}
use Rattle.theorems.proofs.TrimmedRecord.{same_failure, stays_as, goes_as}

ruleset conj = (and_left, and_right, and_both)

-- The trimmed ACL is read without fault: where reading it stands, `t`, is where reading the old one stands, `s`, with fewer actions; a record of kind
-- 15 is due where one is due and its action was kept.
record Behind (kept : Bool) (s t : AclState) : Type 0 where
  groups : t.groups ≡ s.groups
  is_open : t.is_open ≡ s.is_open
  limits : t.limits ≡ s.limits
  actions : t.actions ≤ s.actions
  due : t.file_due ≡ (s.file_due && kept)

-- where none is due, none is due behind
none_due : (kept : Bool) (s t : AclState) → Behind kept s t → s.file_due ≡ false → t.file_due ≡ false
none_due kept s t h d = h.due ∙ ap (λ (b : Bool). b && kept) d

in_place_lem : (t : AclState) (r : Bytes) → t.file_due ≡ false → placed_by_kind t r ≡ true → in_place t r ≡ true
unfolding in_place_under
in_place_lem t r d e = ap (λ (b : Bool). if b then blobfile_record r else placed_by_kind t r) d ∙ e

and_true : (b : Bool) → b ≡ (b && true)
and_true true = refl
and_true false = refl

and_false : (b : Bool) → false ≡ (b && false)
and_false true = refl
and_false false = refl

-- one record, by its kind
module _ (kept : Bool) (s t : AclState) (h : Behind kept s t) (r : Bytes) (e : acl_record_fault s r ≡ none) where
  group_sound : eqb (kind r) 1 ≡ true → (acl_record_fault t r ≡ none) × Behind kept (after_record s r) (after_record t r)
  unfolding placed_under has_room_under keyed after_record
  group_sound p =
      let k = eqb-true (kind r) 1 p in
      let n : (s.file_due ≡ false) × (placed_by_kind s r ≡ true) = not_due s r (rw k) (record_in_place s r e) in
      let i : group_laid_out r ≡ true = rw p at n.1 in
      let m : ltb s.groups groups_max ≡ true = rw p at (record_has_room s r e) in
      let g = h.groups in (
        no_record_fault t r (in_place_lem t r (none_due kept s t h n.0) (rw p i)) (rw (p, g) m) (unkeyed t.is_open k),
        rw p (record { groups = ap (λ (n : ℕ). n + 1) g; is_open = refl; limits = refl; actions = omega arith; due = refl }),
      )
    where
      unkeyed : (b : Bool) → kind r ≡ 1 → keyed b r ≡ true
      unkeyed true k = rw k
      unkeyed false k = refl

  limit_sound : eqb (kind r) 1 ≡ false → eqb (kind r) 2 ≡ true → (acl_record_fault t r ≡ none) × Behind kept (after_record s r) (after_record t r)
  unfolding placed_under has_room_under keyed after_record limit_in_place
  limit_sound p q =
      let k = eqb-true (kind r) 2 q in
      let d : (s.file_due ≡ false) × (placed_by_kind s r ≡ true) = not_due s r (rw k) (record_in_place s r e) in
      let i : (limit_laid_out r && (ltb 0 s.groups && eqb s.actions 0 && not (among (limit_key r) s.limits))) ≡ true = rw (p, q) at d.1 in
      let m : ltb (length s.limits) 4 ≡ true = rw (p, q) at (record_has_room s r e) in
      let z = eqb-true s.actions 0 (search conj) in
      let a = h.actions in
      let y : eqb t.actions 0 ≡ true = eq-eqb t.actions 0 (omega arith) in
      let x : (limit_laid_out r && (ltb 0 s.groups && eqb t.actions 0 && not (among (limit_key r) s.limits))) ≡ true = search conj in (
        no_record_fault t r (in_place_lem t r (none_due kept s t h d.0) (rw (p, q, h.groups, h.limits) x)) (rw (p, q, h.limits) m) (unkeyed t.is_open k),
        rw (p, q) (record { groups = h.groups; is_open = h.is_open; limits = ap (λ (ks : List ℕ). ks ++ (limit_key r ∷ [])) h.limits; actions = h.actions; due = h.due }),
      )
    where
      unkeyed : (b : Bool) → kind r ≡ 2 → keyed b r ≡ true
      unkeyed true k = rw k
      unkeyed false k = refl

  -- an action whose record stays, perhaps changed
  action_sound : (x : Bytes) → eqb (kind r) 1 ≡ false → eqb (kind r) 2 ≡ false → eqb (kind r) 15 ≡ false → kind x ≡ kind r → number 2 2 x ≡ number 2 2 r → action_laid_out x ≡ action_laid_out r
      → (acl_record_fault t x ≡ none) × Behind true (after_record s r) (after_record t x)
  unfolding placed_under has_room_under keyed after_record
  action_sound x p q u k f l =
      let n : (s.file_due ≡ false) × (placed_by_kind s r ≡ true) = not_due s r u (record_in_place s r e) in
      let i : (action_laid_out r && ltb 0 s.groups) ≡ true = rw (p, q) at n.1 in
      let m = ltb-true s.actions actions_max (rw (p, q, u) at (record_has_room s r e)) in
      let a = h.actions in
      let y : ltb t.actions actions_max ≡ true = lt-ltb t.actions actions_max (omega arith) in
      let w : implies (t.is_open && eqb (kind x) 5) (flag 0 x) ≡ true = rw (k, f, h.is_open) (record_keyed s r e) in (
        no_record_fault t x (in_place_lem t x (none_due kept s t h n.0) (rw (k, p, q, l, h.groups) i)) (rw (k, p, q, u) y) w,
        rw (k, p, q, u, f) (record { groups = h.groups; is_open = h.is_open; limits = h.limits; actions = omega arith; due = and_true (announces_blobfile r) }),
      )

  -- an action whose record is dropped
  gone_sound : eqb (kind r) 1 ≡ false → eqb (kind r) 2 ≡ false → eqb (kind r) 15 ≡ false → Behind false (after_record s r) t
  unfolding after_record
  gone_sound p q u =
      let n = not_due s r u (record_in_place s r e) in
      let a = h.actions in
      rw (p, q, u) (record { groups = h.groups; is_open = h.is_open; limits = h.limits; actions = omega arith; due = none_due kept s t h n.0 ∙ and_false (announces_blobfile r) })

-- a record of kind 15 that stays with its action
file_sound : (s t : AclState) → Behind true s t → (r : Bytes) → acl_record_fault s r ≡ none → eqb (kind r) 1 ≡ false → eqb (kind r) 2 ≡ false → eqb (kind r) 15 ≡ true
    → (acl_record_fault t r ≡ none) × Behind true (after_record s r) (after_record t r)
unfolding in_place_under has_room_under keyed after_record
file_sound s t h r e p q u =
    let k = eqb-true (kind r) 15 u in
    let d = due_here s r u (record_in_place s r e) in
    let g : t.file_due ≡ true = h.due ∙ ap (λ (b : Bool). b && true) d.0 in (
      no_record_fault t r (ap (λ (b : Bool). if b then blobfile_record r else placed_by_kind t r) g ∙ d.1) (rw (p, q, u)) (unkeyed t.is_open k),
      rw (p, q, u) (record { groups = h.groups; is_open = h.is_open; limits = h.limits; actions = h.actions; due = refl }),
    )
  where
    unkeyed : (b : Bool) → kind r ≡ 15 → keyed b r ≡ true
    unkeyed true k = rw k
    unkeyed false k = refl

-- a record of kind 15 that is dropped with its action
file_gone : (s t : AclState) → Behind false s t → (r : Bytes) → eqb (kind r) 1 ≡ false → eqb (kind r) 2 ≡ false → eqb (kind r) 15 ≡ true → Behind false (after_record s r) t
unfolding after_record
file_gone s t h r p q u =
    rw (p, q, u) (record { groups = h.groups; is_open = h.is_open; limits = h.limits; actions = h.actions; due = h.due ∙ sym (and_false s.file_due) })

-- the end
end_sound : (kept : Bool) (s t : AclState) → Behind kept s t → acl_end s ≡ none → acl_end t ≡ none
end_sound kept s t h e =
    let d : t.file_due ≡ false = none_due kept s t h (not-true s.file_due (unless_passed (not s.file_due) malformed e)) in
    ap (λ (b : Bool). unless (not b) malformed) d

trimmed_sound : (b : List Bytes) (checked kept : Bool) (s t : AclState) (rs : List Bytes) → Every Whole rs → Behind kept s t → acl_from s rs ≡ none → acl_from t (trimmed_from b checked kept rs) ≡ none
unfolding scan trimmed_from
trimmed_sound b checked kept s t [] w h e = end_sound kept s t h e
trimmed_sound b checked kept s t (r ∷ rs) w h e =
    pick (eqb (kind r) 1) refl (eqb (kind r) 2) refl (eqb (kind r) 15) refl (stays b checked r) refl (or_next_first (acl_record_fault s r) _ e)
    (λ c m u k. trimmed_sound b c m (after_record s r) u rs w.1 k (or_next_next (acl_record_fault s r) _ e))
  where
    Rest : Type 0
    Rest = (c m : Bool) (u : AclState) → Behind m (after_record s r) u → acl_from u (trimmed_from b c m rs) ≡ none

    file : (m : Bool) → Behind m s t → acl_record_fault s r ≡ none → eqb (kind r) 1 ≡ false → eqb (kind r) 2 ≡ false → eqb (kind r) 15 ≡ true → ((u : AclState) → Behind m (after_record s r) u → acl_from u (trimmed_from b checked m rs) ≡ none)
        → acl_from t (kept_before m r (trimmed_from b checked m rs)) ≡ none
    file true h d p q u f = let g = file_sound s t h r d p q u in rw g.0 (f (after_record t r) g.1)
    file false h d p q u f = f t (file_gone s t h r p q u)

    pick : (x : Bool) → eqb (kind r) 1 ≡ x → (y : Bool) → eqb (kind r) 2 ≡ y → (o : Bool) → eqb (kind r) 15 ≡ o → (z : Bool) → stays b checked r ≡ z → acl_record_fault s r ≡ none → Rest → acl_from t (trimmed_from b checked kept (r ∷ rs)) ≡ none
    pick true p y q o u z v d f = let g = group_sound kept s t h r d p in rw (p, g.0) (f (is_checked b r) kept (after_record t r) g.1)
    pick false p true q o u z v d f = let g = limit_sound kept s t h r d p q in rw (p, q, g.0) (f checked kept (after_record t r) g.1)
    pick false p false q true u z v d f = rw (p, q, u) (file kept h d p q u (f checked kept))
    pick false p false q false u true v d f =
        let k = stays_as b checked r w.0 v in
        let x = trimmed_record b checked r in
        let g = action_sound kept s t h r d x p q u k.same_kind k.same_flags k.laid_out in
        rw (p, q, u, v, g.0) (f checked true (after_record t x) g.1)
    pick false p false q false u false v d f = rw (p, q, u, v) (f checked false t (gone_sound kept s t h r d p q u))

pub trimmed_acl_sound : (b : List Bytes) (rs : List Bytes) → Every Whole rs → acl_fault rs ≡ none → acl_fault (trimmed_from b false true rs) ≡ none
unfolding acl_fault_under
trimmed_acl_sound b rs w e = trimmed_sound b false true acl_start acl_start rs w (record { groups = refl; is_open = refl; limits = refl; actions = omega arith; due = refl }) e

-- The limits of a group stay. After an action no limit stands in its group.
no_limit_now : (s : AclState) (r : Bytes) → 0 < s.actions → acl_record_fault s r ≡ none → eqb (kind r) 2 ≡ true → ⊥
unfolding limit_in_place
no_limit_now s r h e q =
    let i : (limit_laid_out r && (ltb 0 s.groups && eqb s.actions 0 && not (among (limit_key r) s.limits))) ≡ true = limit_placed s r (eqb-true (kind r) 2 q) (record_in_place s r e) in
    let z = eqb-true s.actions 0 (search conj) in
    omega arith

more_actions : (s : AclState) (r : Bytes) → eqb (kind r) 1 ≡ false → eqb (kind r) 2 ≡ false → eqb (kind r) 15 ≡ false → 0 < (after_record s r).actions
unfolding after_record
more_actions s r p q u = rw (p, q, u) (omega arith)

-- nor after a record of kind 15
still_actions : (s : AclState) (r : Bytes) → eqb (kind r) 1 ≡ false → eqb (kind r) 2 ≡ false → eqb (kind r) 15 ≡ true → 0 < s.actions → 0 < (after_record s r).actions
unfolding after_record
still_actions s r p q u h = rw (p, q, u) h

kind_1_not_2 : (r : Bytes) → eqb (kind r) 1 ≡ true → eqb (kind r) 2 ≡ false
kind_1_not_2 r p = rw (eqb-true (kind r) 1 p)

limits_before : (m : Bool) (r : Bytes) (rs : List Bytes) → eqb (kind r) 2 ≡ false → limits_of rs ≡ [] → limits_of (kept_before m r rs) ≡ []
unfolding limits_of
limits_before true r rs q e = rw q
limits_before false r rs q e = e

no_limits : (b : List Bytes) (checked kept : Bool) (s : AclState) (rs : List Bytes) → Every Whole rs → 0 < s.actions → acl_from s rs ≡ none → limits_of (trimmed_from b checked kept rs) ≡ []
unfolding scan trimmed_from limits_of
no_limits b checked kept s [] w h e = refl
no_limits b checked kept s (r ∷ rs) w h e =
    pick (eqb (kind r) 1) refl (eqb (kind r) 2) refl (eqb (kind r) 15) refl (stays b checked r) refl (or_next_first (acl_record_fault s r) _ e)
    (λ m k. no_limits b checked m (after_record s r) rs w.1 k (or_next_next (acl_record_fault s r) _ e))
  where
    pick : (x : Bool) → eqb (kind r) 1 ≡ x → (y : Bool) → eqb (kind r) 2 ≡ y → (o : Bool) → eqb (kind r) 15 ≡ o → (z : Bool) → stays b checked r ≡ z → acl_record_fault s r ≡ none
        → ((m : Bool) → 0 < (after_record s r).actions → limits_of (trimmed_from b checked m rs) ≡ []) → limits_of (trimmed_from b checked kept (r ∷ rs)) ≡ []
    pick true p y q o u z v d f = rw (p, kind_1_not_2 r p)
    pick false p true q o u z v d f = absurd (no_limit_now s r h d q)
    pick false p false q true u z v d f = rw (p, q, u) (limits_before kept r (trimmed_from b checked kept rs) q (f kept (still_actions s r p q u h)))
    pick false p false q false u true v d f = rw (p, q, u, v, (stays_as b checked r w.0 v).same_kind, q)
    pick false p false q false u false v d f = rw (p, q, u, v) (f false (more_actions s r p q u))

-- where a record of kind 15 is due, an action was met
abbrev pub FileAfterAction : AclState → Type 0
FileAfterAction s = s.file_due ≡ true → 0 < s.actions

after_met : (s : AclState) (r : Bytes) → acl_record_fault s r ≡ none → FileAfterAction s → FileAfterAction (after_record s r)
unfolding after_record
after_met s r e h d = pick (eqb (kind r) 1) refl (eqb (kind r) 2) refl (eqb (kind r) 15) refl
  where
    pick : (x : Bool) → eqb (kind r) 1 ≡ x → (y : Bool) → eqb (kind r) 2 ≡ y → (o : Bool) → eqb (kind r) 15 ≡ o → 0 < (after_record s r).actions
    pick true p y q o u = let f : false ≡ true = rw p at d in absurd (false≢true f)
    pick false p true q o u = let f : s.file_due ≡ true = rw (p, q) at d in rw (p, q) (h f)
    pick false p false q true u = let f : false ≡ true = rw (p, q, u) at d in absurd (false≢true f)
    pick false p false q false u = rw (p, q, u) (omega arith)

pub same_limits : (b : List Bytes) (checked kept : Bool) (s : AclState) (rs : List Bytes) → Every Whole rs → FileAfterAction s → acl_from s rs ≡ none → limits_of (trimmed_from b checked kept rs) ≡ limits_of rs
unfolding scan trimmed_from limits_of
same_limits b checked kept s [] w h e = refl
same_limits b checked kept s (r ∷ rs) w h e =
    pick (eqb (kind r) 1) refl (eqb (kind r) 2) refl (eqb (kind r) 15) refl (stays b checked r) refl (or_next_first (acl_record_fault s r) _ e)
    (λ d. same_limits b checked kept (after_record s r) rs w.1 (after_met s r d h) (or_next_next (acl_record_fault s r) _ e))
    (λ m k. no_limits b checked m (after_record s r) rs w.1 k (or_next_next (acl_record_fault s r) _ e))
  where
    pick : (x : Bool) → eqb (kind r) 1 ≡ x → (y : Bool) → eqb (kind r) 2 ≡ y → (o : Bool) → eqb (kind r) 15 ≡ o → (z : Bool) → stays b checked r ≡ z → acl_record_fault s r ≡ none
        → (acl_record_fault s r ≡ none → limits_of (trimmed_from b checked kept rs) ≡ limits_of rs) → ((m : Bool) → 0 < (after_record s r).actions → limits_of (trimmed_from b checked m rs) ≡ [])
        → limits_of (trimmed_from b checked kept (r ∷ rs)) ≡ limits_of (r ∷ rs)
    pick true p y q o u z v d f g = rw (p, kind_1_not_2 r p)
    pick false p true q o u z v d f g = rw (p, q, q, f d)
    pick false p false q true u z v d f g =
        let m = due_here s r u (record_in_place s r d) in
        rw (p, q, u) (limits_before kept r (trimmed_from b checked kept rs) q (g kept (still_actions s r p q u (h m.0))))
    pick false p false q false u true v d f g = rw (p, q, u, v, (stays_as b checked r w.0 v).same_kind, q)
    pick false p false q false u false v d f g = rw (p, q, u, v) (g false (more_actions s r p q u))

-- What a kept action's blobfile says stays, and of an action that goes nothing is left.
no_file_next : (b : List Bytes) (checked : Bool) (rs : List Bytes) → Every Whole rs → blobfile_rule_next (trimmed_from b checked false rs) ≡ none
unfolding trimmed_from blobfile_rule_next
no_file_next b checked [] w = refl
no_file_next b checked (r ∷ rs) w =
    pick (eqb (kind r) 1) refl (eqb (kind r) 2) refl (eqb (kind r) 15) refl (stays b checked r) refl (no_file_next b checked rs w.1)
  where
    pick : (x : Bool) → eqb (kind r) 1 ≡ x → (y : Bool) → eqb (kind r) 2 ≡ y → (o : Bool) → eqb (kind r) 15 ≡ o → (z : Bool) → stays b checked r ≡ z
        → blobfile_rule_next (trimmed_from b checked false rs) ≡ none → blobfile_rule_next (trimmed_from b checked false (r ∷ rs)) ≡ none
    pick true p y q o u z v f = let k = eqb-true (kind r) 1 p in rw (p, k)
    pick false p true q o u z v f = let k = eqb-true (kind r) 2 q in rw (p, q, k)
    pick false p false q true u z v f = rw (p, q, u) f
    pick false p false q false u true v f = rw (p, q, u, v, (stays_as b checked r w.0 v).same_kind, u)
    pick false p false q false u false v f = rw (p, q, u, v) f

same_file_next : (b : List Bytes) (checked : Bool) (rs : List Bytes) → Every Whole rs → blobfile_rule_next (trimmed_from b checked true rs) ≡ blobfile_rule_next rs
unfolding trimmed_from blobfile_rule_next
same_file_next b checked [] w = refl
same_file_next b checked (r ∷ rs) w = pick (eqb (kind r) 1) refl (eqb (kind r) 2) refl (eqb (kind r) 15) refl (stays b checked r) refl
  where
    pick : (x : Bool) → eqb (kind r) 1 ≡ x → (y : Bool) → eqb (kind r) 2 ≡ y → (o : Bool) → eqb (kind r) 15 ≡ o → (z : Bool) → stays b checked r ≡ z
        → blobfile_rule_next (trimmed_from b checked true (r ∷ rs)) ≡ blobfile_rule_next (r ∷ rs)
    pick true p y q o u z v = rw p
    pick false p true q o u z v = rw (p, q)
    pick false p false q true u z v = rw (p, q, u, u)
    pick false p false q false u true v = rw (p, q, u, v, (stays_as b checked r w.0 v).same_kind, u)
    pick false p false q false u false v = rw (p, q, u, v, no_file_next b checked rs w.1)

-- The actions of a group, with the places that the hint names.
actions_before : (m : Bool) (r : Bytes) (rs : List Bytes) → eqb (kind r) 1 ≡ false → eqb (kind r) 2 ≡ false → eqb (kind r) 15 ≡ true → actions_of (kept_before m r rs) ≡ actions_of rs
unfolding actions_of
actions_before true r rs p q u = rw (p, q, u)
actions_before false r rs p q u = refl

pub same_actions : (b : List Bytes) (checked kept : Bool) (place : ℕ) (rs : List Bytes) → Every Whole rs → ActionsTrimmed b checked place (actions_of rs) (actions_of (trimmed_from b checked kept rs)) (kept_indices b checked place rs)
unfolding trimmed_from actions_of kept_indices
same_actions b checked kept place [] w = no_action
same_actions b checked kept place (r ∷ rs) w =
    pick (eqb (kind r) 1) refl (eqb (kind r) 2) refl (eqb (kind r) 15) refl (stays b checked r) refl (λ m k. same_actions b checked m k rs w.1)
  where
    pick : (x : Bool) → eqb (kind r) 1 ≡ x → (y : Bool) → eqb (kind r) 2 ≡ y → (o : Bool) → eqb (kind r) 15 ≡ o → (z : Bool) → stays b checked r ≡ z
        → ((m : Bool) (k : ℕ) → ActionsTrimmed b checked k (actions_of rs) (actions_of (trimmed_from b checked m rs)) (kept_indices b checked k rs))
        → ActionsTrimmed b checked place (actions_of (r ∷ rs)) (actions_of (trimmed_from b checked kept (r ∷ rs))) (kept_indices b checked place (r ∷ rs))
    pick true p y q o u z v f = rw (p, p) no_action
    pick false p true q o u z v f = rw (p, q, p, q) (f kept place)
    pick false p false q true u z v f = rw (p, q, u, actions_before kept r (trimmed_from b checked kept rs) p q u) (f kept place)
    pick false p false q false u true v f =
        let k = stays_as b checked r w.0 v in
        rw (p, q, u, v, k.same_kind, p, q, u, same_file_next b checked rs w.1) (keeping (k.kept_as (blobfile_rule_next rs)) (f true (place + 1)))
    pick false p false q false u false v f =
        let k = goes_as b checked r v in
        rw (p, q, u, v) (removing k.is_checked (k.blob (blobfile_rule_next rs)) (k.fails (blobfile_rule_next rs)) (f false (place + 1)))

-- The groups, with the hints.
groups_before : (m : Bool) (r : Bytes) (rs : List Bytes) → eqb (kind r) 1 ≡ false → groups_of (kept_before m r rs) ≡ groups_of rs
unfolding groups_of
groups_before true r rs p = rw p
groups_before false r rs p = refl

begun_due : (s : AclState) (r : Bytes) → eqb (kind r) 1 ≡ true → (after_record s r).file_due ≡ false
unfolding after_record
begun_due s r p = rw p

pub same_groups : (b : List Bytes) (checked kept : Bool) (place : ℕ) (s : AclState) (rs : List Bytes) → Every Whole rs → acl_from s rs ≡ none
    → GroupsTrimmed b place (groups_of rs) (groups_of (trimmed_from b checked kept rs)) (map hint_of (hints_from b place rs))
unfolding scan trimmed_from groups_of hints_from is_checked
same_groups b checked kept place s [] w e = no_group_lem
same_groups b checked kept place s (r ∷ rs) w e =
    pick (eqb (kind r) 1) refl (eqb (kind r) 2) refl (eqb (kind r) 15) refl (stays b checked r) refl (or_next_next (acl_record_fault s r) _ e)
    (λ c m k. same_groups b c m k (after_record s r) rs w.1 (or_next_next (acl_record_fault s r) _ e))
  where
    pick : (x : Bool) → eqb (kind r) 1 ≡ x → (y : Bool) → eqb (kind r) 2 ≡ y → (o : Bool) → eqb (kind r) 15 ≡ o → (z : Bool) → stays b checked r ≡ z → acl_from (after_record s r) rs ≡ none
        → ((c m : Bool) (k : ℕ) → GroupsTrimmed b k (groups_of rs) (groups_of (trimmed_from b c m rs)) (map hint_of (hints_from b k rs)))
        → GroupsTrimmed b place (groups_of (r ∷ rs)) (groups_of (trimmed_from b checked kept (r ∷ rs))) (map hint_of (hints_from b place (r ∷ rs)))
    pick true p y q o u z v d f = rw (p, p) (group one (f (is_checked b r) kept (place + 1)))
      where
        few : length (kept_indices b (is_checked b r) 0 rs) ≤ actions_max
        few = group_places b s r rs p d

        begun : FileAfterAction (after_record s r)
        begun g = let f : false ≡ true = sym (begun_due s r p) ∙ g in absurd (false≢true f)

        one : GroupTrimmed b place (group_of r rs) (group_of r (trimmed_from b (is_checked b r) kept rs)) (hint_of (hint_bytes place (kept_indices b (is_checked b r) 0 rs)))
        one =
            record {
              certifier = refl;
              mechanism = refl;
              limits = same_limits b (is_checked b r) kept (after_record s r) rs w.1 begun d;
              source = ap (λ (h : Hint). h.source) (hint_read place (kept_indices b (is_checked b r) 0 rs) few);
              places = kept_indices b (is_checked b r) 0 rs;
              named = ap (λ (h : Hint). h.actions) (hint_read place (kept_indices b (is_checked b r) 0 rs) few);
              actions = same_actions b (is_checked b r) kept 0 rs w.1;
            }
    pick false p true q o u z v d f = rw (p, q, p) (f checked kept place)
    pick false p false q true u z v d f = rw (p, q, u, groups_before kept r (trimmed_from b checked kept rs) p) (f checked kept place)
    pick false p false q false u true v d f = rw (p, q, u, v, (stays_as b checked r w.0 v).same_kind, p) (f checked true place)
    pick false p false q false u false v d f = rw (p, q, u, v) (f checked false place)

-- None of the steps fails on what is left.
actions_pass : (b : List Bytes) (kept : Bool) (rs : List Bytes) → Every Whole rs → Every (λ a. action_failure b a ≡ none) (actions_of (trimmed_from b true kept rs))
unfolding trimmed_from actions_of
actions_pass b kept [] w = tt
actions_pass b kept (r ∷ rs) w =
    pick (eqb (kind r) 1) refl (eqb (kind r) 2) refl (eqb (kind r) 15) refl (stays b true r) refl (λ m. actions_pass b m rs w.1)
  where
    pick : (x : Bool) → eqb (kind r) 1 ≡ x → (y : Bool) → eqb (kind r) 2 ≡ y → (o : Bool) → eqb (kind r) 15 ≡ o → (z : Bool) → stays b true r ≡ z
        → ((m : Bool) → Every (λ a. action_failure b a ≡ none) (actions_of (trimmed_from b true m rs))) → Every (λ a. action_failure b a ≡ none) (actions_of (trimmed_from b true kept (r ∷ rs)))
    pick true p y q o u z v f = rw (p, p) tt
    pick false p true q o u z v f = rw (p, q, p, q) (f kept)
    pick false p false q true u z v f = rw (p, q, u, actions_before kept r (trimmed_from b true kept rs) p q u) (f kept)
    pick false p false q false u true v f =
        let k = stays_as b true r w.0 v in
        rw (p, q, u, v, k.same_kind, p, q, u) (k.passing (blobfile_rule_next (trimmed_from b true true rs)) refl, f true)
    pick false p false q false u false v f = rw (p, q, u, v) (f false)

group_passes : (b : List Bytes) (kept : Bool) (r : Bytes) (rs : List Bytes) → Every Whole rs → group_failure b (group_of r (trimmed_from b (is_checked b r) kept rs)) ≡ none
unfolding is_checked
group_passes b kept r rs w = pick (officers_group b (group_of r rs)) refl
  where
    pick : (t : Bool) → officers_group b (group_of r rs) ≡ t → group_failure b (group_of r (trimmed_from b (is_checked b r) kept rs)) ≡ none
    pick true e = rw e
    pick false e = rw e (every_fault_none (action_failure b) (actions_of (trimmed_from b true kept rs)) (actions_pass b kept rs w))

groups_pass_lem : (b : List Bytes) (checked kept : Bool) (rs : List Bytes) → Every Whole rs → Every (λ g. group_failure b g ≡ none) (groups_of (trimmed_from b checked kept rs))
unfolding trimmed_from groups_of
groups_pass_lem b checked kept [] w = tt
groups_pass_lem b checked kept (r ∷ rs) w =
    pick (eqb (kind r) 1) refl (eqb (kind r) 2) refl (eqb (kind r) 15) refl (stays b checked r) refl (λ c m. groups_pass_lem b c m rs w.1)
  where
    pick : (x : Bool) → eqb (kind r) 1 ≡ x → (y : Bool) → eqb (kind r) 2 ≡ y → (o : Bool) → eqb (kind r) 15 ≡ o → (z : Bool) → stays b checked r ≡ z
        → ((c m : Bool) → Every (λ g. group_failure b g ≡ none) (groups_of (trimmed_from b c m rs))) → Every (λ g. group_failure b g ≡ none) (groups_of (trimmed_from b checked kept (r ∷ rs)))
    pick true p y q o u z v f = rw (p, p) (group_passes b kept r rs w.1, f (is_checked b r) kept)
    pick false p true q o u z v f = rw (p, q, p) (f checked kept)
    pick false p false q true u z v f = rw (p, q, u, groups_before kept r (trimmed_from b checked kept rs) p) (f checked kept)
    pick false p false q false u true v f = rw (p, q, u, v, (stays_as b checked r w.0 v).same_kind, p) (f checked true)
    pick false p false q false u false v f = rw (p, q, u, v) (f checked false)

pub trimmed_passes : (b : List Bytes) (checked kept : Bool) (rs : List Bytes) → Every Whole rs → acl_failure b (groups_of (trimmed_from b checked kept rs)) ≡ none
unfolding acl_failure
trimmed_passes b checked kept rs w = every_fault_none (group_failure b) (groups_of (trimmed_from b checked kept rs)) (groups_pass_lem b checked kept rs w)

-- What fails none stays as it was.
none_passes : (b : List Bytes) (r : Bytes) (f : Option BlobfileRule) → action_failure b (action_of r f) ≡ none → action_passes b r ≡ true
unfolding action_passes
none_passes b r f e = let d : action_failure b (action_of r none) ≡ none = sym (same_failure b r f) ∙ e in rw d

checked_actions : (b : List Bytes) (r : Bytes) (rs : List Bytes) → group_failure b (group_of r rs) ≡ none → is_checked b r ≡ true → Every (λ a. action_failure b a ≡ none) (actions_of rs)
unfolding is_checked
checked_actions b r rs e c = fault_none_map (action_failure b) (actions_of rs) (rw (not-true (officers_group b (group_of r rs)) c) at e)

-- an action's record of which nothing fails
record_untouched : (b : List Bytes) (checked : Bool) (r : Bytes) (f : Option BlobfileRule) → (checked ≡ true → action_failure b (action_of r f) ≡ none) → (stays b checked r ≡ true) × (trimmed_record b checked r ≡ r)
unfolding stays trimmed_record
record_untouched b false r f h = (refl, refl)
record_untouched b true r f h = let p = none_passes b r f (h refl) in (rw p, rw p)

untouched : (b : List Bytes) (checked : Bool) (rs : List Bytes) → (checked ≡ true → Every (λ a. action_failure b a ≡ none) (actions_of rs)) → Every (λ g. group_failure b g ≡ none) (groups_of rs) → trimmed_from b checked true rs ≡ rs
unfolding trimmed_from groups_of actions_of
untouched b checked [] a g = refl
untouched b checked (r ∷ rs) a g =
    pick (eqb (kind r) 1) refl (eqb (kind r) 2) refl (eqb (kind r) 15) refl (untouched b (is_checked b r) rs) (untouched b checked rs)
  where
    Rest : Bool → Type 0
    Rest c = (c ≡ true → Every (λ a. action_failure b a ≡ none) (actions_of rs)) → Every (λ g. group_failure b g ≡ none) (groups_of rs) → trimmed_from b c true rs ≡ rs

    pick : (x : Bool) → eqb (kind r) 1 ≡ x → (y : Bool) → eqb (kind r) 2 ≡ y → (o : Bool) → eqb (kind r) 15 ≡ o → Rest (is_checked b r) → Rest checked → trimmed_from b checked true (r ∷ rs) ≡ r ∷ rs
    pick true p y q o u f h =
        let k : (group_failure b (group_of r rs) ≡ none) × Every (λ g. group_failure b g ≡ none) (groups_of rs) = rw p at g in
        rw p (ap (λ (xs : List Bytes). r ∷ xs) (f (checked_actions b r rs k.0) k.1))
    pick false p true q o u f h =
        let k : Every (λ g. group_failure b g ≡ none) (groups_of rs) = rw p at g in
        rw (p, q) (ap (λ (xs : List Bytes). r ∷ xs) (h (λ c. rw (p, q) at (a c)) k))
    pick false p false q true u f h =
        let k : Every (λ g. group_failure b g ≡ none) (groups_of rs) = rw p at g in
        rw (p, q, u) (ap (λ (xs : List Bytes). r ∷ xs) (h (λ c. rw (p, q, u) at (a c)) k))
    pick false p false q false u f h =
        let k : Every (λ g. group_failure b g ≡ none) (groups_of rs) = rw p at g in
        let m : checked ≡ true → (action_failure b (action_of r (blobfile_rule_next rs)) ≡ none) × Every (λ a. action_failure b a ≡ none) (actions_of rs) = λ c. rw (p, q, u) at (a c) in
        let n = record_untouched b checked r (blobfile_rule_next rs) (λ c. (m c).0) in
        rw (p, q, u, n.0, n.1) (ap (λ (xs : List Bytes). r ∷ xs) (h (λ c. (m c).1) k))

pub passing_untouched : (b : List Bytes) (rs : List Bytes) → acl_failure b (groups_of rs) ≡ none → trimmed_from b false true rs ≡ rs
unfolding acl_failure
passing_untouched b rs e = untouched b false rs (λ c. absurd (false≢true c)) (fault_none_map (group_failure b) (groups_of rs) e)

-- The hints: well laid out, one for each group.
pub hints_sound : (b : List Bytes) (place : ℕ) (s : AclState) (rs : List Bytes) → acl_from s rs ≡ none → Every (λ h. Whole h × (hint_record h ≡ true)) (hints_from b place rs)
unfolding scan hints_from
hints_sound b place s [] e = tt
hints_sound b place s (r ∷ rs) e =
    pick (eqb (kind r) 1) refl (or_next_next (acl_record_fault s r) _ e) (λ k. hints_sound b k (after_record s r) rs (or_next_next (acl_record_fault s r) _ e))
  where
    pick : (x : Bool) → eqb (kind r) 1 ≡ x → acl_from (after_record s r) rs ≡ none → ((k : ℕ) → Every (λ h. Whole h × (hint_record h ≡ true)) (hints_from b k rs)) → Every (λ h. Whole h × (hint_record h ≡ true)) (hints_from b place (r ∷ rs))
    pick true p d f =
        let few = group_places b s r rs p d in
        rw p ((hint_whole place (kept_indices b (is_checked b r) 0 rs) few, hint_laid_out_lem place (kept_indices b (is_checked b r) 0 rs) few), f (place + 1))
    pick false p d f = rw p (f place)

pub hints_many : (b : List Bytes) (place : ℕ) (rs : List Bytes) → length (hints_from b place rs) ≡ length (groups_of rs)
unfolding hints_from groups_of
hints_many b place [] = refl
hints_many b place (r ∷ rs) = pick (eqb (kind r) 1) refl (λ k. hints_many b k rs)
  where
    pick : (x : Bool) → eqb (kind r) 1 ≡ x → ((k : ℕ) → length (hints_from b k rs) ≡ length (groups_of rs)) → length (hints_from b place (r ∷ rs)) ≡ length (groups_of (r ∷ rs))
    pick true p f = rw p (ap suc (f (place + 1)))
    pick false p f = rw p (f place)

-- The results are of bytes, if the ACL is: what a buffer of bytes can hold.
record_octets : (b : List Bytes) (checked : Bool) (r : Bytes) → Octets r → Octets (trimmed_record b checked r)
unfolding trimmed_record with_bits
record_octets b checked r h = pick (checked && not (action_passes b r)) refl
  where
    n : ℕ
    n = kept_bits (policy_of b) (number 4 2 r)

    pick : (t : Bool) → (checked && not (action_passes b r)) ≡ t → Octets (trimmed_record b checked r)
    pick true e =
        rw e
        (octets_append (take 4 r) (big_endian 2 n ++ drop 6 r) (take_octets 4 r h)
        (octets_append (big_endian 2 n) (drop 6 r) (big_endian_octets 1 n (kept_below_lem 16 (λ p. policy_admits (policy_of b) (class_of p)) (number 4 2 r))) (drop_octets 6 r h)))
    pick false e = rw e h

octets_before : (m : Bool) (r : Bytes) (rs : List Bytes) → Octets r → Every Octets rs → Every Octets (kept_before m r rs)
octets_before true r rs h f = (h, f)
octets_before false r rs h f = f

pub trimmed_octets : (b : List Bytes) (checked kept : Bool) (rs : List Bytes) → Every Octets rs → Every Octets (trimmed_from b checked kept rs)
unfolding trimmed_from
trimmed_octets b checked kept [] h = tt
trimmed_octets b checked kept (r ∷ rs) h =
    pick (eqb (kind r) 1) refl (eqb (kind r) 2) refl (eqb (kind r) 15) refl (stays b checked r) refl (λ c m. trimmed_octets b c m rs h.1)
  where
    pick : (s : Bool) → eqb (kind r) 1 ≡ s → (t : Bool) → eqb (kind r) 2 ≡ t → (o : Bool) → eqb (kind r) 15 ≡ o → (u : Bool) → stays b checked r ≡ u
        → ((c m : Bool) → Every Octets (trimmed_from b c m rs)) → Every Octets (trimmed_from b checked kept (r ∷ rs))
    pick true p t q o x u v f = rw p (h.0, f (is_checked b r) kept)
    pick false p true q o x u v f = rw (p, q) (h.0, f checked kept)
    pick false p false q true x u v f = rw (p, q, x) (octets_before kept r (trimmed_from b checked kept rs) h.0 (f checked kept))
    pick false p false q false x true v f = rw (p, q, x, v) (record_octets b checked r h.0, f checked true)
    pick false p false q false x false v f = rw (p, q, x, v) (f checked false)

pub hints_octets : (b : List Bytes) (place : ℕ) (s : AclState) (rs : List Bytes) → acl_from s rs ≡ none → place ≡ s.groups → Every Octets (hints_from b place rs)
unfolding scan hints_from after_record has_room_under
hints_octets b place s [] e h = tt
hints_octets b place s (r ∷ rs) e h =
    pick (eqb (kind r) 1) refl (or_next_first (acl_record_fault s r) _ e) (or_next_next (acl_record_fault s r) _ e) (λ k. hints_octets b k (after_record s r) rs (or_next_next (acl_record_fault s r) _ e))
  where
    pick : (x : Bool) → eqb (kind r) 1 ≡ x → acl_record_fault s r ≡ none → acl_from (after_record s r) rs ≡ none → ((k : ℕ) → k ≡ (after_record s r).groups → Every Octets (hints_from b k rs)) → Every Octets (hints_from b place (r ∷ rs))
    pick true p d t f =
        rw p (
          hint_octets place (kept_indices b (is_checked b r) 0 rs) (group_places b s r rs p t) below
              (every_map (λ (n : ℕ). n < actions_max) (λ (n : ℕ). n < 256) (kept_indices b (is_checked b r) 0 rs) (λ n l. omega arith) (places_below b (is_checked b r) 0 (after_record s r) rs t (sym (fresh_group s r p)))),
          f (place + 1) next,
        )
      where
        below : place < 256
        below = let l = ltb-true s.groups groups_max (rw p at (record_has_room s r d)) in omega arith

        next : place + 1 ≡ (after_record s r).groups
        next = rw p (ap (λ (n : ℕ). n + 1) h)
    pick false p d t f = rw p (f place (h ∙ sym (same_count s r p)))
