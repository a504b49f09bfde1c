-- Laws of a single action: the table of classes, the loop over the permissions, flags that announce fields, the kinds of actions.
use Prim.Native.Nat.{ℕ, ◌≤◌, zero, suc, ◌+◌, ◌<◌}
use native.Mathlib.Omega.{arith}
use native.Mathlib.Numerals.{add-one}
use mathlib.Core.Path.{◌≡◌, refl, sym, ◌∙◌, ap}
use mathlib.Core.List.{List, [], ◌∷◌, map}
use mathlib.Core.Option.{Option, none, some}
use mathlib.Core.Bool.{Bool, true, false, not, ◌&&◌, ◌||◌}
use borrow.Author.Tests.{not-true, not-false}
use lib.ListN.{length, drop, get_or}
use lib.Seq.{take-take}
use lib.Dec.{eqb}
use Rattle.std.specs.Prelude.{if◌then◌else◌}
use Rattle.rules.specs.Basics.{Bytes, implies, bit, all_below, part, number, kind, flag, optional, present, both_same, unless, first_fault}
use Rattle.rules.specs.Acl.{blob_rule_of, archive_rule_of, parameters_at, BlobfileRule, Action, permissions, make_blob, make_archive, action_of}
use Rattle.rules.specs.Bundle.{Policy}
use Rattle.rules.specs.Suites.{suite_mechanism}
use Rattle.rules.specs.Desk.{Step, Class, class_of, policy_admits, ACLV3, WB1, WB2, WB3, WB6, permissions_failure, blob_failure, is_mechanism, soft_parameters}
use Rattle.std.specs.Prelude.{Result, Ok, Err, MatchResult}
use Rattle.refusals.specs.declared.Refusal.{Refusal}
use Rattle.suites.specs.declared.Suite.{Suite}
use Rattle.suites.specs.Calls.{lookup_as, called_for}
use Rattle.suites.proofs.Laws.{suite_found}
use Rattle.desk_actions.specs.Classes.{admitted_bit}

-- what a table has at an index, read by a function
pub table_at : {A B : Type 0} (f : A → B) (xs : List A) (ys : List B) (k : ℕ) (d : A) (e : B) → map f xs ≡ ys → k < length xs → f (get_or xs k d) ≡ get_or ys k e
table_at f [] ys k d e r h = absurd (omega arith)
table_at f (x ∷ xs) ys zero d e r h = rw (← r)
table_at f (x ∷ xs) ys (suc k) d e r h = rw (← r) (table_at f xs (map f xs) k d e refl (omega arith))

-- One permission: let pass where it is not set, else by its class.
module _ (policy : Policy) (bits b : ℕ) (t : Bool) (is : t ≡ bit b bits) where
  pub bit_unset : not t ≡ true → true ≡ admitted_bit policy bits b
  unfolding admitted_bit
  bit_unset h = rw (← is, not-true t h)

  pub bit_set : (c : Class) (r : Bool) → not t ≡ false → c ≡ class_of b → r ≡ policy_admits policy c → r ≡ admitted_bit policy bits b
  unfolding admitted_bit
  bit_set c r h k e = e ∙ ap (policy_admits policy) k ∙ sym (rw (← is, not-false t h))

-- none is set
pub no_permissions : (policy : Policy) (bits : ℕ) → bits ≡ 0 → true ≡ all_below 16 (admitted_bit policy bits)
unfolding all_below admitted_bit
no_permissions policy bits e = rw e

-- Whether every permission passes, from the least on: after one more.
pub below_none : (p : ℕ → Bool) → true ≡ all_below 0 p
unfolding all_below
below_none p = refl

pub below_next : (p : ℕ → Bool) (b : ℕ) (t r : Bool) → t ≡ p b → r ≡ all_below b p → (t && r) ≡ all_below (b + 1) p
unfolding all_below
below_next p b t r is h = rw (add-one, is, h)

pub below_whole : (p : ℕ → Bool) (b : ℕ) (r : Bool) → b ≤ 16 → 16 ≤ b → r ≡ all_below b p → r ≡ all_below 16 p
below_whole p b r h k e = let d : b ≡ 16 = omega arith in e ∙ ap (λ (n : ℕ). all_below n p) d

-- ACLV3
module _ (p : Policy) (bits n : ℕ) (r : Bool) (f : bits ≡ n) (is : r ≡ all_below 16 (admitted_bit p bits)) where
  pub permissions_fail : not r ≡ true → some ACLV3 ≡ permissions_failure p n
  unfolding admitted_bit
  permissions_fail h = let q : all_below 16 (admitted_bit p n) ≡ false = rw (← f) (sym is ∙ not-true r h) in rw q

  pub permissions_pass : not r ≡ false → none ≡ permissions_failure p n
  unfolding admitted_bit
  permissions_pass h = let q : all_below 16 (admitted_bit p n) ≡ true = rw (← f) (sym is ∙ not-false r h) in rw q

-- A hash that a flag announces.
pub present_optional : {A : Type 0} (t : Bool) (a : A) → present (optional t a) ≡ t
present_optional true a = refl
present_optional false a = refl

-- WB1 to WB6, by the flags
pub by_flags : (hkm : Option Bytes) (rec : Bytes) (x : Option Step)
    → x ≡ first_fault (unless (flag 0 rec || flag 3 rec) WB1 ∷ unless (both_same hkm (optional (flag 2 rec) (part 4 20 rec))) WB2 ∷ unless (not (flag 5 rec)) WB3 ∷ unless (implies (flag 3 rec) (flag 4 rec)) WB6 ∷ [])
    → x ≡ blob_failure hkm (blob_rule_of rec)
by_flags hkm rec x e = rw (present_optional (flag 3 rec) (part 24 20 rec), present_optional (flag 4 rec) (parameters_at 44 rec)) e

-- `if f(..) { return .. }`, of a test that has to fail
module _ {F : Type 0} (f : F) (ts : List (Option F)) (x : Option F) (r t : Bool) (e : r ≡ t) where
  pub fault_if : r ≡ true → x ≡ some f → x ≡ first_fault (unless (not t) f ∷ ts)
  unfolding first_fault
  fault_if h p = p ∙ rw (← e, h)

  pub fault_unless : r ≡ false → x ≡ first_fault ts → x ≡ first_fault (unless (not t) f ∷ ts)
  unfolding first_fault
  fault_unless h p = p ∙ rw (← e, h)

-- RB3, by what the suite's number gave
pub called_is : (suite n : ℕ) (r : Result Suite Refusal) (x : Bool) → lookup_as r ≡ called_for suite → MatchResult r (λ s. x ≡ eqb s.mechanism n) (λ _. x ≡ false)
    → x ≡ is_mechanism (suite_mechanism suite) n
called_is suite n (Err f) x e h = h ∙ sym (rw (← suite_found suite (lookup_as (Err f)) e))
called_is suite n (Ok s) x e h = h ∙ sym (rw (← suite_found suite (lookup_as (Ok s)) e))

-- What is made of an action, by the kind of its record.
pub by_kind : {A : Type 0} (f : Action → A) (r : Bytes) (file : Option BlobfileRule) (x : A)
    → x ≡ (if eqb (kind r) 3 then f (permissions (number 4 2 r)) else if eqb (kind r) 4 then f (make_blob (blob_rule_of r) file) else f (make_archive (archive_rule_of r) file))
    → x ≡ f (action_of r file)
unfolding action_of
by_kind f r file x e = pick (eqb (kind r) 3) refl (eqb (kind r) 4) refl
  where
    pick : (a : Bool) → eqb (kind r) 3 ≡ a → (b : Bool) → eqb (kind r) 4 ≡ b → x ≡ f (action_of r file)
    pick true q b p = rw q (rw q at e)
    pick false q true p = rw (q, p) (rw (q, p) at e)
    pick false q false p = rw (q, p) (rw (q, p) at e)

-- "if ktparams has AllowSoftSlots"
pub soft_is : (rec : Bytes) (r s : Bool) (n : ℕ) → r ≡ flag 4 rec → s ≡ bit 0 n → n ≡ number 44 2 rec → (r && s) ≡ soft_parameters (optional (flag 4 rec) (parameters_at 44 rec))
soft_is rec r s n e f g = rw (e, f, g) (each (flag 4 rec))
  where
    each : (t : Bool) → (t && bit 0 (number 44 2 rec)) ≡ soft_parameters (optional t (parameters_at 44 rec))
    each true = rw (take-take 2 8 (drop 44 rec) (omega arith))
    each false = refl
