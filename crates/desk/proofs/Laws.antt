-- What the parts of the desk's answer say of the whole.
use Prim.Native.Nat.{ℕ, ◌≤◌, ◌<◌, min}
use native.Mathlib.Omega.{arith}
use mathlib.Core.Path.{◌≡◌, refl, sym, ◌∙◌, ap}
use mathlib.Core.List.{List, [], ◌∷◌}
use mathlib.Core.Option.{Option, none, some}
use mathlib.Core.Bool.{Bool, true, false, not, ◌&&◌}
use borrow.Author.Tests.{eq-eqb, ne_eqb, le-leb, lt-leb, not-true, not-false}
use lib.ListN.{replicate}
use lib.Dec.{eqb, leb}
use Rattle.rules.specs.Sizes.{bundle_records, acl_records}
use Rattle.rules.specs.Numbers.{bad_length}
use Rattle.std.specs.Prelude.{Result, Ok, Err, if◌then◌else◌}
use Rattle.rules.specs.Basics.{Bytes, or_next, first_fault, fits, records}
use Rattle.rules.specs.Suites.{suite}
use Rattle.rules.specs.Acl.{Action, permissions, make_blob, make_archive, Group, acl_of, acl_fault}
use Rattle.rules.specs.Bundle.{Policy, policy_of, bundle_fault}
use Rattle.rules.proofs.Laws.{never}
use Rattle.rules.specs.Desk.{Step, KV3, Acceptance, approach1, approach2, action_protection, soft_parameters, smallest, officers_group, key_protection, recoverable_key, before_acl, acl_failure, full_failure, basic_failure, grade_of, accepted_unless, attested, desk_fault, desk}
use Rattle.bundle_facts.specs.Places.{entries, offsets_of}
use Rattle.desk_steps.specs.declared.Step as codeStep
use Rattle.desk_steps.specs.Steps.{step_as, csr_failure}
use Rattle.suites.specs.Calls.{Calls, SuiteAnswer, calls, refuses, called_for}
use Rattle.suites.proofs.Laws.{suite_in, suite_found, suite_measured}
use Rattle.desk.specs.Replies as replies
use Rattle.desk.specs.Replies.{DeskReply, protection_number, acceptance_as, acceptance_for, judged_as, verdict_for, suite_fault, places_read, grade_failure}
use Rattle.desk_grading.specs.Grades.{Graded, acl_graded}
use Rattle.desk_grading.proofs.Laws.{protection_most}
use Rattle.desk.specs.declared.Protection.{Protection}
use Rattle.desk.specs.declared.Acceptance as code

-- A protection is 1 to 4.
action_least : (a : Action) → 1 ≤ action_protection a
unfolding action_protection
action_least (permissions bits) = omega arith
action_least (make_blob r f) = pick r.km_only (soft_parameters r.ktparams)
  where
    pick : (s t : Bool) → 1 ≤ (if s then 1 else if t then 2 else 3)
    pick true t = omega arith
    pick false true = omega arith
    pick false false = omega arith
action_least (make_archive a f) = omega arith

smallest_least : (list : List Action) → 1 ≤ smallest list
unfolding smallest
smallest_least [] = omega arith
smallest_least (a ∷ list) = let h = action_least a in let k = smallest_least list in omega arith

pub protection_least : (b : List Bytes) (gs : List Group) → 1 ≤ key_protection b gs
unfolding key_protection
protection_least b [] = omega arith
protection_least b (g ∷ gs) = pick (officers_group b g) (protection_least b gs)
  where
    pick : (t : Bool) → 1 ≤ key_protection b gs → 1 ≤ (if t then key_protection b gs else min (smallest g.actions) (key_protection b gs))
    pick true h = h
    pick false h = let k = smallest_least g.actions in omega arith

-- 11, by what the match on the suite's number gave
module _ (b : List Bytes) (p : Policy) (e : p ≡ policy_of b) (a : SuiteAnswer) (is : a ≡ called_for p.suite) where
  found : suite_in a ≡ suite (policy_of b).suite
  found = suite_found p.suite a is ∙ ap (λ (q : Policy). suite q.suite) e

  pub suite_unknown : (f : ℕ) → refuses f ≡ a → some f ≡ suite_fault b
  unfolding suite_fault first_fault
  suite_unknown f d = rw (← found, ← d) (ap some (suite_measured p.suite (refuses f) (d ∙ is)))

  pub suite_sound : (c : Calls) → calls c ≡ a → none ≡ suite_fault b
  unfolding suite_fault first_fault
  suite_sound c d = rw (← found, ← d)

-- the faults of both files
module _ (bundle acl : Bytes) (r s : Bool) (p : r ≡ fits bundle_records bundle) (q : s ≡ fits acl_records acl) where
  lengths : (r && s) ≡ (fits bundle_records bundle && fits acl_records acl)
  lengths = rw (p, q)

  pub bad_lengths : not (r && s) ≡ true → some bad_length ≡ desk_fault bundle acl
  unfolding desk_fault first_fault
  bad_lengths h = rw (sym lengths ∙ not-true (r && s) h)

  pub good_lengths : (x f g k : Option ℕ) → not (r && s) ≡ false → f ≡ bundle_fault (records bundle) → g ≡ acl_fault (records acl) → k ≡ suite_fault (records bundle) → x ≡ or_next f (or_next g k) → x ≡ desk_fault bundle acl
  unfolding desk_fault first_fault suite_fault
  good_lengths x f g k h c d e a = rw (a, c, d, e, sym lengths ∙ not-false (r && s) h)

  pub table_kept : (places : List ℕ) → places ≡ replicate entries 0 → not (r && s) ≡ true → places ≡ places_read bundle acl
  table_kept places e h = e ∙ sym (rw (sym lengths ∙ not-true (r && s) h))

  pub table_filled : (places : List ℕ) → places ≡ offsets_of bundle → not (r && s) ≡ false → places ≡ places_read bundle acl
  table_filled places e h = e ∙ sym (rw (sym lengths ∙ not-false (r && s) h))

-- a refusal is no answer that there is no fault
pub refused : {A : Type 0} (n : ℕ) → some n ≡ none → A
refused n e = absurd (never (cc))

-- KV3 and CSRL1
module _ (b : List Bytes) (p : Policy) (protection : ℕ) (e : p ≡ policy_of b) where
  pub grade_fails : protection < p.lowest_protection → some KV3 ≡ grade_failure b protection
  unfolding grade_failure first_fault
  grade_fails h =
      let k : leb (policy_of b).lowest_protection protection ≡ false = rw (← e) (lt-leb p.lowest_protection protection h) in rw k

  pub grade_passes : (x : Option Step) → p.lowest_protection ≤ protection → x ≡ csr_failure b → x ≡ grade_failure b protection
  unfolding grade_failure first_fault csr_failure
  grade_passes x h c =
      let k : leb (policy_of b).lowest_protection protection ≡ true = rw (← e) (le-leb p.lowest_protection protection h) in c ∙ rw k

-- Approach 2, whole.
or_none : {F : Type 0} (o : Option F) → or_next o none ≡ o
or_none none = refl
or_none (some f) = refl

pub full_is : (b : List Bytes) (gs : List Group) → or_next (before_acl b) (or_next (acl_failure b gs) (grade_failure b (key_protection b gs))) ≡ full_failure b gs
unfolding full_failure grade_failure first_fault
full_is b gs = ap (λ (z : Option Step). or_next (before_acl b) (or_next (acl_failure b gs) z)) (sym (or_none (grade_failure b (key_protection b gs))))

-- the verdict of a run of steps
pub judged_failed : (x : Result code.Acceptance codeStep.Step) (s : codeStep.Step) (spec : Acceptance) (o : Option Step) → x ≡ Err s → some (step_as s) ≡ o → judged_as x ≡ verdict_for (accepted_unless o spec)
judged_failed x s spec o e d = rw (e, ← d)

pub judged_passed : (a : code.Acceptance) (spec : Acceptance) (o : Option Step) → none ≡ o → acceptance_as a ≡ acceptance_for spec → judged_as (Ok a) ≡ verdict_for (accepted_unless o spec)
judged_passed a spec o e n = rw (← e, n)

-- the approach that the policy names
pub approach_two : (b : List Bytes) (gs : List Group) (p : Policy) (x : DeskReply) → p ≡ policy_of b → p.approach ≡ 2 → x ≡ verdict_for (accepted_unless (full_failure b gs) (approach2 (grade_of b gs))) → x ≡ verdict_for (attested b gs)
approach_two b gs p x e h q = let k : eqb (policy_of b).approach 2 ≡ true = rw (← e) (eq-eqb p.approach 2 h) in rw k q

pub approach_one : (b : List Bytes) (gs : List Group) (p : Policy) (x : DeskReply) → p ≡ policy_of b → (p.approach ≡ 2 → ⊥) → x ≡ verdict_for (accepted_unless (basic_failure b) approach1) → x ≡ verdict_for (attested b gs)
approach_one b gs p x e h q = let k : eqb (policy_of b).approach 2 ≡ false = rw (← e) (ne_eqb p.approach 2 h) in rw k q

-- the whole
pub sound_files : (bundle acl : Bytes) (x : DeskReply) → none ≡ desk_fault bundle acl → x ≡ verdict_for (attested (records bundle) (acl_of acl)) → x ≡ verdict_for (desk bundle acl)
unfolding desk
sound_files bundle acl x e q = rw (← e) q

pub faulty_files : (bundle acl : Bytes) (n : ℕ) → some n ≡ desk_fault bundle acl → replies.refusing n ≡ verdict_for (desk bundle acl)
unfolding desk
faulty_files bundle acl n e = rw (← e)

-- what goes into an acceptance under approach 2
module _ (b : List Bytes) (gs : List Group) (g : Graded) (e : g ≡ acl_graded b gs) where
  failure_is : g.failure ≡ acl_failure b gs
  unfolding acl_graded
  failure_is = ap (λ (x : Graded). x.failure) e

  protection_is : g.protection ≡ key_protection b gs
  unfolding acl_graded
  protection_is = ap (λ (x : Graded). x.protection) e

  recoverable_is : g.recoverable ≡ recoverable_key b gs
  unfolding acl_graded
  recoverable_is = ap (λ (x : Graded). x.recoverable) e

  pub protection_bounds : (1 ≤ g.protection) × (g.protection ≤ 4)
  protection_bounds = let p = protection_is in let l = protection_least b gs in let m = protection_most b gs in (omega arith, omega arith)

  full_from : (o : Option Step) → o ≡ or_next (before_acl b) (or_next g.failure (grade_failure b g.protection)) → o ≡ full_failure b gs
  full_from o q = q ∙ rw (failure_is, protection_is) (full_is b gs)

  -- the case that no step before the ACL fails
  pub full_passed : before_acl b ≡ none → (o : Option Step) → o ≡ or_next g.failure (grade_failure b g.protection) → o ≡ full_failure b gs
  full_passed n o q = full_from o (q ∙ sym (ap (λ (x : Option Step). or_next x (or_next g.failure (grade_failure b g.protection))) n))

  pub named_from : (p : Protection) → protection_number p ≡ g.protection
      → acceptance_as (record { approach = 2; protection = p; recoverable = g.recoverable }) ≡ acceptance_for (approach2 (grade_of b gs))
  named_from p q = rw (q, protection_is, recoverable_is)

-- a step before the ACL fails
pub failed_early : (b : List Bytes) (gs : List Group) (f : Step) → some f ≡ before_acl b → some f ≡ full_failure b gs
unfolding full_failure first_fault
failed_early b gs f e = rw (← e)
