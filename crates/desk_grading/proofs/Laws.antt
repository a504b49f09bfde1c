-- The turns of the loop over the records of an ACL, and what the parts say of the whole.
use Prim.Native.Nat.{ℕ, ◌+◌, ◌≤◌, ◌<◌, min}
use native.Mathlib.Omega.{arith}
use mathlib.Core.Path.{◌≡◌, refl, sym, ◌∙◌, ap}
use mathlib.Core.List.{List, [], ◌∷◌, map}
use mathlib.Core.Option.{Option, none, some}
use mathlib.Core.Bool.{Bool, true, false, not, ◌||◌, false≢true}
use borrow.Author.Tests.{eq-eqb, ne_eqb}
use lib.ListN.{length, drop, get_or}
use lib.Dec.{eqb}
use Rattle.rules.specs.Numbers.{not_kept}
use Rattle.rules.specs.Sizes.{hash_bytes}
use Rattle.std.specs.Prelude.{if◌then◌else◌}
use Rattle.std.specs.Prelude.{Result, Ok, Err}
use Rattle.std.specs.Result.{result_and}
use Rattle.desk_steps.specs.declared.Step as code
use Rattle.desk_steps.specs.Steps.{failure_as}
use Rattle.rules.specs.Basics.{Bytes, any, kind, flag, part, number, optional, both_same, or_next, first_fault, records}
use Rattle.rules.specs.Acl.{blob_rule_of, archive_rule_of, BlobfileRule, blobfile_rule_next, Action, make_blob, action_of, actions_of, Group, group_of, groups_of, acl_of}
use Rattle.rules.specs.Bundle.{field, Policy, policy_of}
use Rattle.rules.specs.Desk.{Step, permissions_failure, blob_failure, archive_failure, module_key, recovery_key, failure_under, officers_group, acl_failure, action_protection, smallest, is_archive, key_protection, recoverable_key}
use Rattle.record_fields.proofs.Walks.{left_at, left_none}
use Rattle.acl_groups.specs.Parts.{passed_over}
use Rattle.bundle_facts.specs.Found.{bytes_as}
use Rattle.desk_actions.specs.declared.Terms.{Terms}
use Rattle.desk_actions.proofs.Laws.{by_kind}
use Rattle.desk_grading.specs.Grades.{Graded, graded_together, no_actions, all_graded, action_graded, actions_graded, group_graded, groups_graded, acl_graded, action_by, actions_by, group_by, groups_by}

-- An action by its kind: what it fails, what it protects by, whether it is for recovery.
module _ (policy : Policy) (hkm hkre : Option Bytes) (r : Bytes) (file : Option BlobfileRule) (failure : Option Step) where
  pub graded_permissions : kind r ≡ 3 → failure ≡ permissions_failure policy (number 4 2 r)
      → record { failure = failure; protection = not_kept; recoverable = false } ≡ action_graded policy hkm hkre (action_of r file)
  unfolding action_graded failure_under action_protection
  graded_permissions e p =
      by_kind (action_graded policy hkm hkre) r file (record { failure = failure; protection = not_kept; recoverable = false }) (rw (eq-eqb (kind r) 3 e, p))

  pub graded_blob : (protection : ℕ) → kind r ≡ 4 → failure ≡ blob_failure hkm (blob_rule_of r) → protection ≡ action_protection (make_blob (blob_rule_of r) none)
      → record { failure = failure; protection = protection; recoverable = false } ≡ action_graded policy hkm hkre (action_of r file)
  unfolding action_graded failure_under action_protection
  graded_blob protection e p q =
      by_kind (action_graded policy hkm hkre) r file (record { failure = failure; protection = protection; recoverable = false })
      (rw (ne_eqb (kind r) 3 (λ z. omega arith), eq-eqb (kind r) 4 e, p, q))

  pub graded_archive : (kind r ≡ 3 → ⊥) → (kind r ≡ 4 → ⊥) → failure ≡ archive_failure policy hkre (archive_rule_of r)
      → record { failure = failure; protection = not_kept; recoverable = true } ≡ action_graded policy hkm hkre (action_of r file)
  unfolding action_graded failure_under action_protection
  graded_archive n m p =
      by_kind (action_graded policy hkm hkre) r file (record { failure = failure; protection = not_kept; recoverable = true })
      (rw (ne_eqb (kind r) 3 n, ne_eqb (kind r) 4 m, p))

-- Parts, one after the other.
or_next_assoc : {F : Type 0} (a b c : Option F) → or_next a (or_next b c) ≡ or_next (or_next a b) c
or_next_assoc none b c = refl
or_next_assoc (some f) b c = refl

or_next_none : {F : Type 0} (a : Option F) → or_next a none ≡ a
or_next_none none = refl
or_next_none (some f) = refl

or_assoc : (a b c : Bool) → (a || (b || c)) ≡ ((a || b) || c)
or_assoc true b c = refl
or_assoc false b c = refl

or_false : (a : Bool) → (a || false) ≡ a
or_false true = refl
or_false false = refl

pub together_assoc : (x y z : Graded) → graded_together x (graded_together y z) ≡ graded_together (graded_together x y) z
unfolding graded_together
together_assoc x y z =
    let m : min x.protection (min y.protection z.protection) ≡ min (min x.protection y.protection) z.protection = omega arith in
    rw (or_next_assoc x.failure y.failure z.failure, m, or_assoc x.recoverable y.recoverable z.recoverable)

pub together_none : (x : Graded) → x.protection ≤ not_kept → graded_together x (no_actions false) ≡ x
unfolding graded_together
together_none x h =
    let m : min x.protection not_kept ≡ x.protection = omega arith in
    rw (or_next_none x.failure, m, or_false x.recoverable)

pub first_most : (found : Graded) → found ≡ no_actions false → found.protection ≤ not_kept
first_most found e = let p : found.protection ≡ not_kept = ap (λ (g : Graded). g.protection) e in omega arith

pub join_most : (found one next : Graded) → next ≡ graded_together found one → found.protection ≤ not_kept → next.protection ≤ not_kept
unfolding graded_together
join_most found one next e m = let p : next.protection ≡ min found.protection one.protection = ap (λ (g : Graded). g.protection) e in omega arith

pub failure_and : (a b : Result (Unit {0}) code.Step) → failure_as (result_and a b) ≡ or_next (failure_as a) (failure_as b)
failure_and (Ok x) b = refl
failure_and (Err s) b = refl

-- No protection is over 4, "not kept".
pub all_graded_most : {A : Type 0} (f : A → Graded) (list : List A) → (all_graded f list).protection ≤ not_kept
unfolding all_graded graded_together
all_graded_most f [] = omega arith
all_graded_most f (a ∷ list) = let h = all_graded_most f list in omega arith

-- One record before others: the actions up to the next group, and the groups.
module _ (r : Bytes) (rs : List Bytes) where
  groups_here : kind r ≡ 1 → groups_of (r ∷ rs) ≡ group_of r rs ∷ groups_of rs
  unfolding groups_of
  groups_here e = rw (eq-eqb (kind r) 1 e)

  groups_past : (kind r ≡ 1 → ⊥) → groups_of (r ∷ rs) ≡ groups_of rs
  unfolding groups_of
  groups_past n = rw (ne_eqb (kind r) 1 n)

  actions_none : kind r ≡ 1 → actions_of (r ∷ rs) ≡ []
  unfolding actions_of
  actions_none e = rw (eq-eqb (kind r) 1 e)

  actions_past : (kind r ≡ 1 → ⊥) → passed_over (kind r) ≡ true → actions_of (r ∷ rs) ≡ actions_of rs
  unfolding actions_of
  actions_past n o = rw (ne_eqb (kind r) 1 n) (pick (eqb (kind r) 2) (eqb (kind r) 15) o)
    where
      pick : (a b : Bool) → (a || b) ≡ true → (if a then actions_of rs else if b then actions_of rs else action_of r (blobfile_rule_next rs) ∷ actions_of rs) ≡ actions_of rs
      pick true b o = refl
      pick false true o = refl
      pick false false o = absurd (false≢true o)

  actions_here : (kind r ≡ 1 → ⊥) → passed_over (kind r) ≡ false → actions_of (r ∷ rs) ≡ action_of r (blobfile_rule_next rs) ∷ actions_of rs
  unfolding actions_of
  actions_here n o = rw (ne_eqb (kind r) 1 n) (pick (eqb (kind r) 2) (eqb (kind r) 15) o)
    where
      pick : (a b : Bool) → (a || b) ≡ false
          → (if a then actions_of rs else if b then actions_of rs else action_of r (blobfile_rule_next rs) ∷ actions_of rs) ≡ action_of r (blobfile_rule_next rs) ∷ actions_of rs
      pick true b o = absurd (false≢true (sym o))
      pick false true o = absurd (false≢true (sym o))
      pick false false o = refl

regroup : (t : Bool) (found acts rest : Graded) → graded_together (graded_together found (no_actions t)) (graded_together (if not t then acts else no_actions false) rest) ≡ graded_together found (graded_together (no_actions false) (graded_together (if t then no_actions true else acts) rest))
unfolding graded_together
regroup true found acts rest = sym (together_assoc found (no_actions true) (graded_together (no_actions false) rest))
regroup false found acts rest = sym (together_assoc found (no_actions false) (graded_together acts rest))

-- What is left of an ACL's records: the actions up to the next group, where they are checked, and then the groups.
module _ (t : Terms) where
  abbrev actions_left : Bool → List Action → Graded
  actions_left checked list = if checked then actions_by t list else no_actions false

  unfoldable pub left : Bool → List Bytes → Graded
  left checked rs = graded_together (actions_left checked (actions_of rs)) (groups_by t (groups_of rs))

  left_first : (rs : List Bytes) → graded_together (no_actions false) (left false rs) ≡ groups_by t (groups_of rs)
  unfolding left groups_graded graded_together
  left_first rs =
      let all : Graded = all_graded (group_by t) (groups_of rs) in
      let h = all_graded_most (group_by t) (groups_of rs) in
      let m : min not_kept (min not_kept all.protection) ≡ all.protection = omega arith in
      rw m

  none_left : (checked : Bool) → actions_left checked [] ≡ no_actions false
  unfolding actions_graded all_graded
  none_left true = refl
  none_left false = refl

  left_end : (checked : Bool) → left checked [] ≡ no_actions false
  unfolding left actions_of groups_of groups_graded graded_together all_graded
  left_end checked = rw (none_left checked)

  module _ (r : Bytes) (rs : List Bytes) where
    -- what a group's first record leaves: its actions are checked unless the group is the officer's
    group_left : (checked officers : Bool) → kind r ≡ 1 → officers ≡ both_same (bytes_as t.officer) (optional (flag 0 r) (part 4 hash_bytes r))
        → left checked (r ∷ rs) ≡ graded_together (no_actions false) (graded_together (if officers then no_actions true else actions_by t (actions_of rs)) (groups_by t (groups_of rs)))
    unfolding left groups_graded all_graded group_graded
    group_left checked officers e is = rw (actions_none r rs e, none_left checked, groups_here r rs e, is)

    -- a record that begins no group, where nothing is checked
    unchecked_left : (checked : Bool) → (kind r ≡ 1 → ⊥) → checked ≡ false → left checked (r ∷ rs) ≡ left checked rs
    unfolding left
    unchecked_left checked n c = rw (c, groups_past r rs n)

    -- what is neither a group nor an action
    passed_left : (checked : Bool) → (kind r ≡ 1 → ⊥) → passed_over (kind r) ≡ true → left checked (r ∷ rs) ≡ left checked rs
    unfolding left
    passed_left checked n o = rw (actions_past r rs n o, groups_past r rs n)

    action_left : (checked : Bool) → (kind r ≡ 1 → ⊥) → checked ≡ true → passed_over (kind r) ≡ false
        → left checked (r ∷ rs) ≡ graded_together (action_by t (action_of r (blobfile_rule_next rs))) (left checked rs)
    unfolding left actions_graded all_graded
    action_left checked n c o =
        rw (c, actions_here r rs n o, groups_past r rs n)
        (sym (together_assoc (action_by t (action_of r (blobfile_rule_next rs))) (actions_by t (actions_of rs)) (groups_by t (groups_of rs))))

  pub left_start : (acl : Bytes) (xs : List Bytes) (found : Graded) → xs ≡ records acl → found ≡ no_actions false → graded_together found (left false (drop 0 xs)) ≡ groups_by t (acl_of acl)
  left_start acl xs found w e = rw (w, e) (left_first (records acl))

  -- The turns of the loop: what was found, and what is left.
  module _ (xs : List Bytes) (k : ℕ) (checked : Bool) (found x : Graded) (inv : graded_together found (left checked (drop k xs)) ≡ x) where
    here_left : k < length xs → graded_together found (left checked (get_or xs k [] ∷ drop (k + 1) xs)) ≡ x
    here_left h = sym (ap (λ (z : List Bytes). graded_together found (left checked z)) (left_at xs k h)) ∙ inv

    group_next : (officers : Bool) → k < length xs → kind (get_or xs k []) ≡ 1 → officers ≡ both_same (bytes_as t.officer) (optional (flag 0 (get_or xs k [])) (part 4 hash_bytes (get_or xs k [])))
        → graded_together (graded_together found (no_actions officers)) (left (not officers) (drop (k + 1) xs)) ≡ x
    unfolding left
    group_next officers h e is =
        regroup officers found (actions_by t (actions_of (drop (k + 1) xs))) (groups_by t (groups_of (drop (k + 1) xs)))
        ∙ sym (ap (graded_together found) (group_left (get_or xs k []) (drop (k + 1) xs) checked officers e is))
        ∙ here_left h

    pub left_group : (officers : Bool) (one next : Graded) → k < length xs → kind (get_or xs k []) ≡ 1
        → officers ≡ both_same (bytes_as t.officer) (optional (flag 0 (get_or xs k [])) (part 4 hash_bytes (get_or xs k []))) → one ≡ no_actions officers
        → next ≡ graded_together found one → graded_together next (left (not officers) (drop (k + 1) xs)) ≡ x
    left_group officers one next h e is o n =
        ap (λ (z : Graded). graded_together z (left (not officers) (drop (k + 1) xs))) (n ∙ ap (graded_together found) o)
        ∙ group_next officers h e is

    -- a record that changes nothing
    left_same : k < length xs → left checked (get_or xs k [] ∷ drop (k + 1) xs) ≡ left checked (drop (k + 1) xs) → graded_together found (left checked (drop (k + 1) xs)) ≡ x
    left_same h e = sym (ap (graded_together found) e) ∙ here_left h

    pub left_unchecked : k < length xs → (kind (get_or xs k []) ≡ 1 → ⊥) → checked ≡ false → graded_together found (left checked (drop (k + 1) xs)) ≡ x
    left_unchecked h n c = left_same h (unchecked_left (get_or xs k []) (drop (k + 1) xs) checked n c)

    pub left_passed : k < length xs → (kind (get_or xs k []) ≡ 1 → ⊥) → passed_over (kind (get_or xs k [])) ≡ true → graded_together found (left checked (drop (k + 1) xs)) ≡ x
    left_passed h n o = left_same h (passed_left (get_or xs k []) (drop (k + 1) xs) checked n o)

    -- an action that is checked
    pub left_action : (one next : Graded) → k < length xs → (kind (get_or xs k []) ≡ 1 → ⊥) → checked ≡ true → passed_over (kind (get_or xs k [])) ≡ false
        → ((file : Option BlobfileRule) → one ≡ action_by t (action_of (get_or xs k []) file)) → next ≡ graded_together found one
        → graded_together next (left checked (drop (k + 1) xs)) ≡ x
    left_action one next h n c o is e =
        let f = blobfile_rule_next (drop (k + 1) xs) in
        let a = action_by t (action_of (get_or xs k []) f) in
        ap (λ (z : Graded). graded_together z (left checked (drop (k + 1) xs))) (e ∙ ap (graded_together found) (is f))
        ∙ sym (together_assoc found a (left checked (drop (k + 1) xs)))
        ∙ sym (ap (graded_together found) (action_left (get_or xs k []) (drop (k + 1) xs) checked n c o))
        ∙ here_left h

    pub left_done : found.protection ≤ not_kept → length xs ≤ k → found ≡ x
    left_done m h =
        sym (together_none found m)
        ∙ sym (ap (graded_together found) (left_end checked))
        ∙ sym (ap (λ (z : List Bytes). graded_together found (left checked z)) (left_none xs k h))
        ∙ inv

pub protection_most : (b : List Bytes) (gs : List Group) → key_protection b gs ≤ not_kept
unfolding key_protection
protection_most b [] = omega arith
protection_most b (g ∷ gs) = pick (officers_group b g) (protection_most b gs)
  where
    pick : (t : Bool) → key_protection b gs ≤ not_kept → (if t then key_protection b gs else min (smallest g.actions) (key_protection b gs)) ≤ not_kept
    pick true h = h
    pick false h = omega arith

-- The grades of the parts of an ACL, one after the other, make the grade that the desk's definitions give the whole.
actions_are : (policy : Policy) (hkm hkre : Option Bytes) (list : List Action)
    → actions_graded policy hkm hkre list ≡ record { failure = first_fault (map (failure_under policy hkm hkre) list); protection = smallest list; recoverable = any is_archive list }
unfolding actions_graded all_graded graded_together action_graded first_fault smallest any
actions_are policy hkm hkre [] = refl
actions_are policy hkm hkre (a ∷ list) = ap (graded_together (action_graded policy hkm hkre a)) (actions_are policy hkm hkre list)

pub groups_are : (b : List Bytes) (gs : List Group) → groups_graded (field 4 b) (policy_of b) (module_key b) (recovery_key b) gs ≡ acl_graded b gs
unfolding groups_graded all_graded graded_together acl_graded group_graded acl_failure first_fault key_protection recoverable_key any
groups_are b [] = refl
groups_are b (g ∷ gs) = ap (graded_together (group_graded (field 4 b) (policy_of b) (module_key b) (recovery_key b) g)) (groups_are b gs) ∙ pick (officers_group b g)
  where
    checked : Graded
    checked = actions_graded (policy_of b) (module_key b) (recovery_key b) g.actions

    pick : (t : Bool) → graded_together (if t then no_actions true else checked) (acl_graded b gs)
        ≡ record {
          failure = or_next (if t then none else first_fault (map (failure_under (policy_of b) (module_key b) (recovery_key b)) g.actions)) (acl_failure b gs);
          protection = if t then key_protection b gs else min (smallest g.actions) (key_protection b gs);
          recoverable = (t || any is_archive g.actions) || recoverable_key b gs;
        }
    pick true = let h = protection_most b gs in let m : min not_kept (key_protection b gs) ≡ key_protection b gs = omega arith in rw m
    pick false = ap (λ (x : Graded). graded_together x (acl_graded b gs)) (actions_are (policy_of b) (module_key b) (recovery_key b) g.actions)

pub acl_from_lem : (b : List Bytes) (gs : List Group) (o m k : Option Bytes) (p : Policy) (x : Graded) → o ≡ field 4 b → p ≡ policy_of b → m ≡ module_key b → k ≡ recovery_key b
    → x ≡ groups_graded o p m k gs → x ≡ acl_graded b gs
acl_from_lem b gs o m k p x a c d e h = (rw (a, c, d, e) at h) ∙ groups_are b gs
