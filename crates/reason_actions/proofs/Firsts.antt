-- The action that is named is the first at fault, its step is the step that the desk answers, and the permission that is named is the lowest. Two wrong
-- products that this rules out: naming a later action that fails too, and naming the group before.
use Prim.Native.Nat.{ℕ, zero, suc, ◌+◌, ◌≤◌, ◌<◌, min}
use native.Mathlib.Omega.{arith}
use mathlib.Core.Path.{◌≡◌, refl, sym, ◌∙◌, ap}
use mathlib.Core.List.{List, [], ◌∷◌, ◌++◌, map}
use mathlib.Core.Option.{Option, none, some}
use mathlib.Core.Bool.{Bool, true, false, ◌&&◌}
use borrow.Author.Tests.{eqb-true, eqb-false, ltb-true, ltb-false, lt-ltb}
use lib.ListN.{length}
use lib.Dec.{eqb, ltb}
use Rattle.rules.specs.Numbers.{not_kept}
use Rattle.std.specs.Prelude.{if◌then◌else◌}
use Rattle.rules.specs.Basics.{Bytes, Every, all_below, present, unless, or_next, first_fault}
use Rattle.rules.specs.Acl.{Action, permissions, make_blob, make_archive, Group}
use Rattle.rules.specs.Bundle.{field, Policy, policy_of}
use Rattle.rules.specs.Desk.{Step, ACLV3, module_key, recovery_key, failure_under, action_failure, officers_group, group_failure, acl_failure, action_protection, smallest, key_protection}
use Rattle.rules.proofs.Laws.{never}
use Rattle.desk_actions.specs.Classes.{admitted_bit}
use Rattle.reason_actions.specs.Spots.{unadmitted_from, permission_of, below_lowest, at_fault, skipped, Located, in_actions, in_groups}
use Rattle.reason_actions.specs.First.{Passes, First, step_at, LowestBit}

-- Of a group's actions.
record FirstAction (faulty : Action → Bool) (g i : ℕ) (list : List Action) (l : Located) : Type 0 where
  earlier : List Action
  later : List Action
  group : l.group ≡ g
  actions : list ≡ earlier ++ (l.found ∷ later)
  index : l.action ≡ i + length earlier
  passed : Every (λ a. faulty a ≡ false) earlier
  fails : faulty l.found ≡ true

module _ (faulty : Action → Bool) where
  first_action : (g i : ℕ) (list : List Action) (l : Located) → in_actions faulty g i list ≡ some l → FirstAction faulty g i list l
  unfolding in_actions
  first_action g i [] l e = absurd (never (cc))
  first_action g i (a ∷ rest) l e = pick (faulty a) refl e (first_action g (i + 1) rest l)
    where
      pick : (t : Bool) → faulty a ≡ t → (if t then some (record { group = g; action = i; found = a }) else in_actions faulty g (i + 1) rest) ≡ some l
          → (in_actions faulty g (i + 1) rest ≡ some l → FirstAction faulty g (i + 1) rest l) → FirstAction faulty g i (a ∷ rest) l
      pick true q d later =
          let k : record { group = g; action = i; found = a } ≡ l = cc in
          rw (← k) (record { earlier = []; later = rest; group = refl; actions = refl; index = omega arith; passed = tt; fails = q })
      pick false q d later =
          let f = later d in
          let n = f.index in
          record {
            earlier = a ∷ f.earlier;
            later = f.later;
            group = f.group;
            actions = ap (λ (z : List Action). a ∷ z) f.actions;
            index = omega arith;
            passed = (q, f.passed);
            fails = f.fails;
          }

  no_action : (g i : ℕ) (list : List Action) → in_actions faulty g i list ≡ none → Every (λ a. faulty a ≡ false) list
  unfolding in_actions
  no_action g i [] e = tt
  no_action g i (a ∷ rest) e = pick (faulty a) refl e (no_action g (i + 1) rest)
    where
      pick : (t : Bool) → faulty a ≡ t → (if t then some (record { group = g; action = i; found = a }) else in_actions faulty g (i + 1) rest) ≡ none
          → (in_actions faulty g (i + 1) rest ≡ none → Every (λ x. faulty x ≡ false) rest) → Every (λ x. faulty x ≡ false) (a ∷ rest)
      pick true q d h = absurd (never (cc))
      pick false q d h = (q, h d)

-- Of groups.
module _ (skips : Group → Bool) (faulty : Action → Bool) where
  passes : (from : ℕ) (x : Group) → (if skips x then none else in_actions faulty from 0 x.actions) ≡ none → Passes skips faulty x
  passes from x e h = no_action faulty from 0 x.actions (rw h at e)

  pub located_is_first : (from : ℕ) (gs : List Group) (l : Located) → in_groups skips faulty from gs ≡ some l → First skips faulty from gs l
  unfolding in_groups
  located_is_first from [] l e = absurd (never (cc))
  located_is_first from (x ∷ gs) l e = pick (skips x) refl (in_actions faulty from 0 x.actions) refl e (located_is_first (from + 1) gs l)
    where
      here : skips x ≡ false → in_actions faulty from 0 x.actions ≡ some l → First skips faulty from (x ∷ gs) l
      here c q =
          let f = first_action faulty from 0 x.actions l q in
          let i = f.index in
          record {
            before = [];
            group = x;
            after = gs;
            earlier = f.earlier;
            later = f.later;
            groups = refl;
            group_index = f.group ∙ zero_more from;
            actions = f.actions;
            action_index = omega arith;
            groups_pass = tt;
            checked = c;
            earlier_pass = f.passed;
            fails = f.fails;
          }
        where
          zero_more : (n : ℕ) → n ≡ n + 0
          zero_more n = omega arith

      later_on : Passes skips faulty x → First skips faulty (from + 1) gs l → First skips faulty from (x ∷ gs) l
      later_on p f =
          let i = f.group_index in
          record {
            before = x ∷ f.before;
            group = f.group;
            after = f.after;
            earlier = f.earlier;
            later = f.later;
            groups = ap (λ (z : List Group). x ∷ z) f.groups;
            group_index = omega arith;
            actions = f.actions;
            action_index = f.action_index;
            groups_pass = (p, f.groups_pass);
            checked = f.checked;
            earlier_pass = f.earlier_pass;
            fails = f.fails;
          }

      pick : (t : Bool) → skips x ≡ t → (o : Option Located) → in_actions faulty from 0 x.actions ≡ o → or_next (if t then none else o) (in_groups skips faulty (from + 1) gs) ≡ some l
          → (in_groups skips faulty (from + 1) gs ≡ some l → First skips faulty (from + 1) gs l) → First skips faulty from (x ∷ gs) l
      pick true c o q d next = later_on (λ h. absurd (never (cc))) (next d)
      pick false c none q d next = later_on (passes from x (rw (c, q))) (next d)
      pick false c (some m) q d next = let k : m ≡ l = cc in here c (q ∙ ap some k)

-- The step of the action that is found is the ACL's.
module _ (b : List Bytes) where
  abbrev fault : Action → Bool
  fault = at_fault false (policy_of b) (module_key b) (recovery_key b)

  actions_step : (g i : ℕ) (list : List Action) → first_fault (map (action_failure b) list) ≡ step_at b (in_actions fault g i list)
  unfolding first_fault in_actions at_fault
  actions_step g i [] = refl
  actions_step g i (a ∷ rest) = pick (action_failure b a) refl (actions_step g (i + 1) rest)
    where
      pick : (o : Option Step) → action_failure b a ≡ o → first_fault (map (action_failure b) rest) ≡ step_at b (in_actions fault g (i + 1) rest)
          → or_next o (first_fault (map (action_failure b) rest)) ≡ step_at b (if present o then some (record { group = g; action = i; found = a }) else in_actions fault g (i + 1) rest)
      pick none q h = h
      pick (some s) q h = sym q

  stays : (o x : Option Step) → present o ≡ true → or_next o x ≡ o
  stays none x e = absurd (never (cc))
  stays (some s) x e = refl

  pub located_step : (from : ℕ) (gs : List Group) → acl_failure b gs ≡ step_at b (in_groups (skipped (field 4 b)) fault from gs)
  unfolding acl_failure first_fault in_groups skipped at_fault
  located_step from [] = refl
  located_step from (x ∷ gs) =
      pick (officers_group b x) (in_actions fault from 0 x.actions) (λ l e. (first_action fault from 0 x.actions l e).fails) (actions_step from 0 x.actions) (located_step (from + 1) gs)
    where
      rest : Option Step
      rest = first_fault (map (group_failure b) gs)

      either : (o p : Option Located) (s : Option Step) → ((l : Located) → o ≡ some l → present (action_failure b l.found) ≡ true) → s ≡ step_at b o → rest ≡ step_at b p → or_next s rest ≡ step_at b (or_next o p)
      either none p s k e h = rw e h
      either (some l) p s k e h = rw e (stays (action_failure b l.found) rest (k l refl))

      pick : (t : Bool) (o : Option Located) → ((l : Located) → o ≡ some l → present (action_failure b l.found) ≡ true) → first_fault (map (action_failure b) x.actions) ≡ step_at b o
          → rest ≡ step_at b (in_groups (skipped (field 4 b)) fault (from + 1) gs)
          → or_next (if t then none else first_fault (map (action_failure b) x.actions)) rest ≡ step_at b (or_next (if t then none else o) (in_groups (skipped (field 4 b)) fault (from + 1) gs))
      pick true o k e h = h
      pick false o k e h = either o (in_groups (skipped (field 4 b)) fault (from + 1) gs) (first_fault (map (action_failure b) x.actions)) k e h

  -- KV3: where the key's protection is too low, the action by which it is.
  abbrev weak : Action → Bool
  weak = at_fault true (policy_of b) (module_key b) (recovery_key b)

  weak_action : (policy_of b).lowest_protection ≤ not_kept → (a : Action) → action_protection a < (policy_of b).lowest_protection → weak a ≡ true
  unfolding at_fault below_lowest action_protection
  weak_action m (permissions bits) h = absurd (omega arith)
  weak_action m (make_blob r f) h = lt-ltb (action_protection (make_blob r f)) (policy_of b).lowest_protection h
  weak_action m (make_archive a f) h = absurd (omega arith)

  weak_actions : (policy_of b).lowest_protection ≤ not_kept → (g i : ℕ) (list : List Action) → smallest list < (policy_of b).lowest_protection → present (in_actions weak g i list) ≡ true
  unfolding in_actions smallest
  weak_actions m g i [] h = absurd (omega arith)
  weak_actions m g i (a ∷ rest) h = pick (weak a) refl (weak_actions m g (i + 1) rest)
    where
      pick : (t : Bool) → weak a ≡ t → (smallest rest < (policy_of b).lowest_protection → present (in_actions weak g (i + 1) rest) ≡ true) → present (if t then some (record { group = g; action = i; found = a }) else in_actions weak g (i + 1) rest) ≡ true
      pick true q next = refl
      pick false q next = next (under (ltb (action_protection a) (policy_of b).lowest_protection) refl)
        where
          under : (t : Bool) → ltb (action_protection a) (policy_of b).lowest_protection ≡ t → smallest rest < (policy_of b).lowest_protection
          under true l = let k = weak_action m a (ltb-true (action_protection a) (policy_of b).lowest_protection l) in absurd (never (cc))
          under false l = let k = ltb-false (action_protection a) (policy_of b).lowest_protection l in omega arith

  pub weak_located : (policy_of b).lowest_protection ≤ not_kept → (from : ℕ) (gs : List Group) → key_protection b gs < (policy_of b).lowest_protection → present (in_groups (skipped (field 4 b)) weak from gs) ≡ true
  unfolding in_groups key_protection skipped
  weak_located m from [] h = absurd (omega arith)
  weak_located m from (x ∷ gs) h = pick (officers_group b x) h (weak_located m (from + 1) gs)
    where
      Next : Type 0
      Next = key_protection b gs < (policy_of b).lowest_protection → present (in_groups (skipped (field 4 b)) weak (from + 1) gs) ≡ true

      some_next : (o p : Option Located) → present p ≡ true → present (or_next o p) ≡ true
      some_next none p e = e
      some_next (some l) p e = refl

      some_here : (o p : Option Located) → present o ≡ true → present (or_next o p) ≡ true
      some_here none p e = absurd (never (cc))
      some_here (some l) p e = refl

      least : (t : Bool) → ltb (smallest x.actions) (policy_of b).lowest_protection ≡ t → min (smallest x.actions) (key_protection b gs) < (policy_of b).lowest_protection → Next
          → present (or_next (in_actions weak from 0 x.actions) (in_groups (skipped (field 4 b)) weak (from + 1) gs)) ≡ true
      least true q d next = some_here (in_actions weak from 0 x.actions) (in_groups (skipped (field 4 b)) weak (from + 1) gs) (weak_actions m from 0 x.actions (ltb-true (smallest x.actions) (policy_of b).lowest_protection q))
      least false q d next =
          let k = ltb-false (smallest x.actions) (policy_of b).lowest_protection q in
          some_next (in_actions weak from 0 x.actions) (in_groups (skipped (field 4 b)) weak (from + 1) gs) (next (omega arith))

      pick : (t : Bool) → (if t then key_protection b gs else min (smallest x.actions) (key_protection b gs)) < (policy_of b).lowest_protection → Next
          → present (or_next (if t then none else in_actions weak from 0 x.actions) (in_groups (skipped (field 4 b)) weak (from + 1) gs)) ≡ true
      pick true d next = next d
      pick false d next = least (ltb (smallest x.actions) (policy_of b).lowest_protection) refl d next

-- The permission of an action that fails ACLV3 is the lowest that is set and not admitted.
record Refused (p : ℕ → Bool) (k : ℕ) : Type 0 where
  bit : ℕ
  below : bit < k
  refused : p bit ≡ false

some_refused : (p : ℕ → Bool) (k : ℕ) → all_below k p ≡ false → Refused p k
unfolding all_below
some_refused p zero e = absurd (never (cc))
some_refused p (suc k) e = pick (p k) refl e (some_refused p k)
  where
    pick : (t : Bool) → p k ≡ t → (t && all_below k p) ≡ false → (all_below k p ≡ false → Refused p k) → Refused p (suc k)
    pick true q d h = let f = h d in let l = f.below in record { bit = f.bit; below = omega arith; refused = f.refused }
    pick false q d h = record { bit = k; below = omega arith; refused = q }

module _ (policy : Policy) (bits : ℕ) where
  lowest_from : (k p j : ℕ) → p + k ≡ 16 → p ≤ j → j < 16 → admitted_bit policy bits j ≡ false → LowestBit policy bits p (unadmitted_from policy bits k p)
  unfolding unadmitted_from
  lowest_from zero p j s l m r = absurd (omega arith)
  lowest_from (suc k) p j s l m r = pick (admitted_bit policy bits p) refl (λ i. lowest_from k (p + 1) j (omega arith) i m r)
    where
      extend : admitted_bit policy bits p ≡ true → (x : ℕ) → LowestBit policy bits (p + 1) x → LowestBit policy bits p x
      extend a x f =
          let i = f.least in
          record { least = omega arith; most = f.most; refused = f.refused; lower = λ q g h. at_or_after q g h (eqb q p) refl }
        where
          at_or_after : (q : ℕ) → p ≤ q → q < x → (t : Bool) → eqb q p ≡ t → admitted_bit policy bits q ≡ true
          at_or_after q g h true e = rw (eqb-true q p e) a
          at_or_after q g h false e = let n = eqb-false q p e in f.lower q (omega arith) h

      pick : (t : Bool) → admitted_bit policy bits p ≡ t → (p + 1 ≤ j → LowestBit policy bits (p + 1) (unadmitted_from policy bits k (p + 1))) → LowestBit policy bits p (if t then unadmitted_from policy bits k (p + 1) else p)
      pick false a next = record { least = omega arith; most = omega arith; refused = a; lower = λ q g h. absurd (omega arith) }
      pick true a next = extend a (unadmitted_from policy bits k (p + 1)) (next (above (eqb j p) refl))
        where
          above : (t : Bool) → eqb j p ≡ t → p + 1 ≤ j
          above true e = let same : admitted_bit policy bits j ≡ true = rw (eqb-true j p e) a in absurd (never (cc))
          above false e = let n = eqb-false j p e in omega arith

  pub permission_is_lowest : (hkm hkre : Option Bytes) → failure_under policy hkm hkre (permissions bits) ≡ some ACLV3 → LowestBit policy bits 0 (permission_of policy (permissions bits))
  unfolding failure_under permission_of admitted_bit
  permission_is_lowest hkm hkre e = pick (all_below 16 (admitted_bit policy bits)) refl e
    where
      pick : (t : Bool) → all_below 16 (admitted_bit policy bits) ≡ t → unless t ACLV3 ≡ some ACLV3 → LowestBit policy bits 0 (unadmitted_from policy bits 16 0)
      pick true q d = absurd (never (cc))
      pick false q d = let f = some_refused (admitted_bit policy bits) 16 q in lowest_from 16 0 f.bit refl (omega arith) f.below f.refused
