-- The turns of the loop over the permissions, and of the loop over the records of an ACL.
use Prim.Native.Nat.{ℕ, suc, ◌+◌, ◌-◌, ◌/◌, ◌≤◌, ◌<◌}
use native.Mathlib.Omega.{arith}
use mathlib.Core.Path.{◌≡◌, refl, sym, ◌∙◌, ap}
use mathlib.Core.List.{List, [], ◌∷◌}
use mathlib.Core.Option.{Option, none, some}
use mathlib.Core.Bool.{Bool, true, false, not, ◌||◌, false≢true}
use borrow.Author.Tests.{eq-eqb, ne_eqb, not-true, not-false}
use lib.ListN.{length, drop, get_or}
use lib.Dec.{eqb, ltb}
use Rattle.rules.specs.Sizes.{hash_bytes}
use Rattle.std.specs.Prelude.{if◌then◌else◌}
use Rattle.std.specs.Prelude.{Some, None, Result, Ok, Err, is_err}
use Rattle.std.specs.Prelude as prelude
use Rattle.rules.specs.Basics.{Bytes, kind, flag, part, number, optional, present, both_same, or_next, records}
use Rattle.rules.specs.Acl.{blob_rule_of, BlobfileRule, blobfile_rule_next, Action, make_blob, action_of, actions_of, groups_of}
use Rattle.rules.specs.Bundle.{Policy}
use Rattle.rules.specs.Desk.{Step, failure_under, action_protection}
use Rattle.rules.proofs.Laws.{chunks_length}
use Rattle.record_fields.proofs.Walks.{left_at, left_none}
use Rattle.acl_groups.specs.Parts.{passed_over}
use Rattle.desk_steps.specs.declared.Step as code
use Rattle.desk_steps.specs.Steps.{failure_as}
use Rattle.desk_actions.specs.Classes.{admitted_bit}
use Rattle.desk_actions.proofs.Laws.{by_kind}
use Rattle.reason_actions.specs.Spots.{all_ones, permission_number, unadmitted_from, permission_of, below_lowest, at_fault, skipped, Located, in_actions, in_groups, spot_as, spot_of}

-- The permissions from p on, of those below 16.
module _ (policy : Policy) (bits p : ℕ) (x : ℕ) (inv : unadmitted_from policy bits (16 - p) p ≡ x) where
  unadmitted_step : p < 16 → (if admitted_bit policy bits p then unadmitted_from policy bits (16 - (p + 1)) (p + 1) else p) ≡ x
  unfolding unadmitted_from
  unadmitted_step h = let k : 16 - p ≡ suc (16 - (p + 1)) = omega arith in rw k at inv

  module _ (t : Bool) (is : t ≡ admitted_bit policy bits p) where
    pub unadmitted_here : p < 16 → not t ≡ true → p ≡ x
    unadmitted_here h e = rw (sym is ∙ not-true t e) at (unadmitted_step h)

    pub unadmitted_later : p < 16 → not t ≡ false → unadmitted_from policy bits (16 - (p + 1)) (p + 1) ≡ x
    unadmitted_later h e = rw (sym is ∙ not-false t e) at (unadmitted_step h)

  pub unadmitted_none : 16 ≤ p → all_ones ≡ x
  unfolding unadmitted_from
  unadmitted_none h = let k : 16 - p ≡ 0 = omega arith in rw k at inv

-- An action by its kind: the permission that it fails by ..
module _ (policy : Policy) (r : Bytes) (file : Option BlobfileRule) (x : ℕ) where
  pub of_permissions : kind r ≡ 3 → (n : ℕ) → n ≡ number 4 2 r → x ≡ unadmitted_from policy n 16 0 → x ≡ permission_of policy (action_of r file)
  unfolding permission_of
  of_permissions e n f q = by_kind (permission_of policy) r file x (rw (eq-eqb (kind r) 3 e) (q ∙ ap (λ (m : ℕ). unadmitted_from policy m 16 0) f))

  pub of_other : (kind r ≡ 3 → ⊥) → x ≡ all_ones → x ≡ permission_of policy (action_of r file)
  unfolding permission_of
  of_other n q = by_kind (permission_of policy) r file x (rw (ne_eqb (kind r) 3 n) (pick (eqb (kind r) 4)))
    where
      pick : (t : Bool) → x ≡ (if t then all_ones else all_ones)
      pick true = q
      pick false = q

-- Whether an action protects too little.
module _ (lowest : ℕ) (r : Bytes) (file : Option BlobfileRule) where
  pub below_other : (kind r ≡ 4 → ⊥) → false ≡ below_lowest lowest (action_of r file)
  unfolding below_lowest
  below_other n = by_kind (below_lowest lowest) r file false (rw (ne_eqb (kind r) 4 n) (pick (eqb (kind r) 3)))
    where
      pick : (t : Bool) → false ≡ (if t then false else false)
      pick true = refl
      pick false = refl

  pub below_blob : kind r ≡ 4 → (n : ℕ) → n ≡ action_protection (make_blob (blob_rule_of r) none) → ltb n lowest ≡ below_lowest lowest (action_of r file)
  unfolding below_lowest action_protection
  below_blob e n p = by_kind (below_lowest lowest) r file (ltb n lowest) (rw (ne_eqb (kind r) 3 (λ z. omega arith), eq-eqb (kind r) 4 e, p))

-- whether it fails KV3, or a step of the ACL
module _ (graded : Bool) (policy : Policy) (hkm hkre : Option Bytes) (a : Action) (r : Bool) where
  pub fault_graded : graded ≡ true → r ≡ below_lowest policy.lowest_protection a → r ≡ at_fault graded policy hkm hkre a
  unfolding at_fault
  fault_graded e p = rw e p

  pub fault_step : graded ≡ false → {A : Type 0} (x : Result A code.Step) → failure_as x ≡ failure_under policy hkm hkre a → r ≡ is_err x → r ≡ at_fault graded policy hkm hkre a
  unfolding at_fault
  fault_step e x p q = rw e (q ∙ failed x ∙ ap (λ (o : Option Step). present o) p)
    where
      failed : {A : Type 0} (x : Result A code.Step) → is_err x ≡ present (failure_as x)
      failed (Ok z) = refl
      failed (Err s) = refl

-- A count of the records so far fits 32 bits, in a file that is not too long.
pub counted : (acl : Bytes) (xs : List Bytes) (k n : ℕ) → xs ≡ records acl → k < length xs → n ≤ k → length acl < 4294967295 → n + 1 < 4294967296
unfolding records
counted acl xs k n e h l s = let f = ap length e ∙ chunks_length (length acl / 64) acl in omega arith

-- What is left of an ACL's records: the actions of group g from index i on, where they are checked, and then the groups from index n on.
module _ (officer : Option Bytes) (faulty : Action → Bool) where
  abbrev actions_left : Bool → ℕ → ℕ → List Action → Option Located
  actions_left checked g i list = if checked then in_actions faulty g i list else none

  -- shut, so that a search reads the records off it
  unfoldable pub left : Bool → ℕ → ℕ → ℕ → List Bytes → Option Located
  left checked g n i rs = or_next (actions_left checked g i (actions_of rs)) (in_groups (skipped officer) faulty n (groups_of rs))

  none_left : (checked : Bool) (g i : ℕ) → actions_left checked g i [] ≡ none
  unfolding in_actions
  none_left true g i = refl
  none_left false g i = refl

  pub left_begun : (xs rs : List Bytes) → xs ≡ rs → left false 0 0 0 (drop 0 xs) ≡ in_groups (skipped officer) faulty 0 (groups_of rs)
  unfolding left
  left_begun xs rs e = rw e

  flip : (t : Bool) (x y : Option Located) → or_next (if not t then x else none) y ≡ or_next (if t then none else x) y
  flip true x y = refl
  flip false x y = refl

  -- one record, and the rest
  module _ (checked : Bool) (g n i : ℕ) (r : Bytes) (rs : List Bytes) where
    group_turn : kind r ≡ 1 → left (not (both_same officer (optional (flag 0 r) (part 4 hash_bytes r)))) n (n + 1) 0 rs ≡ left checked g n i (r ∷ rs)
    unfolding left in_groups skipped actions_of groups_of
    group_turn e =
        flip (both_same officer (optional (flag 0 r) (part 4 hash_bytes r))) (in_actions faulty n 0 (actions_of rs)) (in_groups (skipped officer) faulty (n + 1) (groups_of rs))
        ∙ sym (rw (eq-eqb (kind r) 1 e, none_left checked g i))

    unchecked_turn : (kind r ≡ 1 → ⊥) → left false g n i rs ≡ left false g n i (r ∷ rs)
    unfolding left groups_of
    unchecked_turn m = sym (rw (ne_eqb (kind r) 1 m))

    over_turn : (kind r ≡ 1 → ⊥) → passed_over (kind r) ≡ true → left checked g n i rs ≡ left checked g n i (r ∷ rs)
    unfolding left groups_of actions_of
    over_turn m o = sym (rw (ne_eqb (kind r) 1 m) (pick (eqb (kind r) 2) (eqb (kind r) 15) o))
      where
        pick : (a b : Bool) → (a || b) ≡ true
            → or_next (actions_left checked g i (if a then actions_of rs else if b then actions_of rs else action_of r (blobfile_rule_next rs) ∷ actions_of rs)) (in_groups (skipped officer) faulty n (groups_of rs))
            ≡ or_next (actions_left checked g i (actions_of rs)) (in_groups (skipped officer) faulty n (groups_of rs))
        pick true b z = refl
        pick false true z = refl
        pick false false z = absurd (false≢true z)

    action_turn : (kind r ≡ 1 → ⊥) → passed_over (kind r) ≡ false
        → (if faulty (action_of r (blobfile_rule_next rs)) then some (record { group = g; action = i; found = action_of r (blobfile_rule_next rs) }) else left true g n (i + 1) rs) ≡ left true g n i (r ∷ rs)
    unfolding left groups_of actions_of in_actions
    action_turn m o = sym (rw (ne_eqb (kind r) 1 m) (pick (eqb (kind r) 2) (eqb (kind r) 15) o))
      where
        a : Action
        a = action_of r (blobfile_rule_next rs)

        chosen : (t : Bool) (y z : Option Located) (l : Located) → or_next (if t then some l else y) z ≡ (if t then some l else or_next y z)
        chosen true y z l = refl
        chosen false y z l = refl

        pick : (b c : Bool) → (b || c) ≡ false
            → or_next (in_actions faulty g i (if b then actions_of rs else if c then actions_of rs else a ∷ actions_of rs)) (in_groups (skipped officer) faulty n (groups_of rs))
            ≡ (if faulty a then some (record { group = g; action = i; found = a }) else or_next (in_actions faulty g (i + 1) (actions_of rs)) (in_groups (skipped officer) faulty n (groups_of rs)))
        pick true c z = absurd (false≢true (sym z))
        pick false true z = absurd (false≢true (sym z))
        pick false false z = chosen (faulty a) (in_actions faulty g (i + 1) (actions_of rs)) (in_groups (skipped officer) faulty n (groups_of rs)) (record { group = g; action = i; found = a })

  -- The turns of the loop: the k-th record of xs.
  module _ (checked : Bool) (g n i : ℕ) (xs : List Bytes) (k : ℕ) (x : Option Located) (inv : left checked g n i (drop k xs) ≡ x) where
    abbrev here : Bytes
    here = get_or xs k []

    opened : k < length xs → left checked g n i (here ∷ drop (k + 1) xs) ≡ x
    opened h = sym (ap (left checked g n i) (left_at xs k h)) ∙ inv

    pub left_group : (officers : Bool) → k < length xs → kind here ≡ 1 → officers ≡ both_same officer (optional (flag 0 here) (part 4 hash_bytes here)) → left (not officers) n (n + 1) 0 (drop (k + 1) xs) ≡ x
    left_group officers h e is = rw is (group_turn checked g n i here (drop (k + 1) xs) e ∙ opened h)

    -- what is not checked, or no action
    pub left_past : (o : Bool) → k < length xs → (kind here ≡ 1 → ⊥) → o ≡ passed_over (kind here) → (not checked || o) ≡ true → left checked g n i (drop (k + 1) xs) ≡ x
    left_past o h m is t = pick checked t (opened h)
      where
        pick : (c : Bool) → (not c || o) ≡ true → left c g n i (here ∷ drop (k + 1) xs) ≡ x → left c g n i (drop (k + 1) xs) ≡ x
        pick true z v = over_turn true g n i here (drop (k + 1) xs) m (sym is ∙ z) ∙ v
        pick false z v = unchecked_turn false g n i here (drop (k + 1) xs) m ∙ v

    -- an action that is checked
    module _ (o : Bool) (h : k < length xs) (m : kind here ≡ 1 → ⊥) (no : o ≡ passed_over (kind here)) (t : (not checked || o) ≡ false)
        (r : Bool) (is : (file : Option BlobfileRule) → r ≡ faulty (action_of here file)) where
      abbrev found : Action
      found = action_of here (blobfile_rule_next (drop (k + 1) xs))

      action_step : (if r then some (record { group = g; action = i; found = found }) else left checked g n (i + 1) (drop (k + 1) xs)) ≡ x
      action_step = pick checked t (opened h)
        where
          pick : (c : Bool) → (not c || o) ≡ false → left c g n i (here ∷ drop (k + 1) xs) ≡ x → (if r then some (record { group = g; action = i; found = found }) else left c g n (i + 1) (drop (k + 1) xs)) ≡ x
          pick true z v = rw (is (blobfile_rule_next (drop (k + 1) xs))) (action_turn true g n i here (drop (k + 1) xs) m (sym no ∙ z) ∙ v)
          pick false z v = absurd (false≢true (sym z))

      pub left_next : r ≡ false → left checked g n (i + 1) (drop (k + 1) xs) ≡ x
      left_next e = rw e at action_step

      pub left_somewhere : r ≡ true → true ≡ present x
      left_somewhere e = ap (λ (o : Option Located). present o) (rw e at action_step)

      pub left_found : r ≡ true → (policy : Policy) (permission : prelude.Option ℕ) → ((file : Option BlobfileRule) → permission_number permission ≡ permission_of policy (action_of here file))
          → spot_as (Some (record { group = g; action = i; permission = permission })) ≡ spot_of policy x
      left_found e policy permission p = rw (p (blobfile_rule_next (drop (k + 1) xs))) (ap (spot_of policy) (rw e at action_step))

    left_over : length xs ≤ k → none ≡ x
    unfolding left in_groups groups_of actions_of
    left_over h = none_here ∙ inv
      where
        none_here : none ≡ left checked g n i (drop k xs)
        none_here = sym (ap (left checked g n i) (left_none xs k h) ∙ rw (none_left checked g i))

    pub left_done : length xs ≤ k → (policy : Policy) → spot_as None ≡ spot_of policy x
    left_done h policy = ap (spot_of policy) (left_over h)

    pub left_nowhere : length xs ≤ k → false ≡ present x
    left_nowhere h = ap (λ (o : Option Located). present o) (left_over h)
