-- The loop over the permissions, and what the tool does with an ACL's records, in the definitions' terms.
use Prim.Native.Nat.{ℕ, zero, suc, ◌+◌, ◌*◌, ◌/◌, ◌%◌, ◌≤◌, ◌<◌, ◌^◌}
use native.Mathlib.Omega.{arith}
use native.Mathlib.Numerals.{add-one}
use native.Mathlib.Nat.{add-zero, pow-succ'}
use mathlib.Core.Path.{◌≡◌, refl, ◌∙◌, ap}
use mathlib.Core.List.{List, [], ◌∷◌, ◌++◌}
use mathlib.Core.Option.{Option, none}
use mathlib.Core.Bool.{Bool, true, false, not, ◌&&◌, false≢true}
use borrow.Author.Tests.{eqb-true, eq-eqb, ne_eqb, not-true, not-false}
use lib.ListN.{length}
use lib.Dec.{eqb}
use lib.Arith.{mod-mul}
use lib.Pow.{pow_pos}
use Rattle.rules.specs.Sizes.{record_bytes, hash_bytes}
use Rattle.std.specs.Prelude.{if◌then◌else◌, Some, None, is_some, Result, Ok, Err, is_ok}
use Rattle.std.specs.Prelude as prelude
use Rattle.rules.specs.Basics.{Bytes, implies, bit, number, kind, flag, part, optional, both_same, joined}
use Rattle.rules.specs.Bundle.{Policy, field, policy_of}
use Rattle.rules.specs.Acl.{blob_rule_of, archive_rule_of, Action, action_of}
use Rattle.rules.specs.Desk.{Step, module_key, recovery_key, permissions_failure, blob_failure, archive_failure, failure_under, action_failure, class_of, policy_admits}
use Rattle.rules.specs.Trim.{kept_below, kept_bits, is_checked, action_passes, stays, trimmed_record, kept_before, trimmed_from}
use Rattle.rules.proofs.Laws.{not_both}
use Rattle.rules.proofs.Bits.{kept_below_lem}
use Rattle.rules.proofs.Trim.{masked}
use Rattle.desk_steps.specs.declared.Step as code
use Rattle.desk_steps.specs.Steps.{failure_as}
use Rattle.desk_actions.specs.Classes.{admitted_bit}
use Rattle.desk_actions.proofs.Laws.{by_kind}
use Rattle.trim_records.specs.declared.Kept.{Kept}
use Rattle.trim_records.specs.declared.Kept.TheVariants.{Whole, Fewer}
use Rattle.trim_records.specs.Fates.{kept_bit, on_action, on_record, size_of, left_of, kept_after, checked_after}

-- A bit that is set, and admitted if it is set.
set_admitted : (x y : Bool) → (x && implies x y) ≡ (x && y)
set_admitted true y = refl
set_admitted false y = refl

pub kept_bit_lem : (policy : Policy) (bits b : ℕ) (r s : Bool) → r ≡ bit b bits → s ≡ admitted_bit policy bits b → (r && s) ≡ kept_bit policy bits b
unfolding kept_bit admitted_bit
kept_bit_lem policy bits b r s e d = rw (e, d) (set_admitted (bit b bits) (policy_admits policy (class_of b)))

-- The value of a bit below 16.
power_most : (k b : ℕ) → b ≤ k → 2 ^ b ≤ 2 ^ k
power_most zero zero h = omega arith
power_most zero (suc b) h = absurd (omega arith)
power_most (suc k) zero h = let e = power_most k zero (omega arith) in let d = pow-succ' 2 k in omega arith
power_most (suc k) (suc b) h = let e = power_most k b (omega arith) in let d = pow-succ' 2 k in let f = pow-succ' 2 b in omega arith

pub bit_small : (b : ℕ) → b < 16 → 2 ^ b ≤ 32768
bit_small b h = power_most 15 b (omega arith)

-- The permissions below b that are kept: shut, so that a search reads b off it.
unfoldable pub kept_to : Policy → ℕ → ℕ → ℕ
kept_to policy bits b = kept_below b (λ p. policy_admits policy (class_of p)) bits

pub bits_none : (policy : Policy) (bits : ℕ) → 0 ≡ kept_to policy bits 0
unfolding kept_to kept_below
bits_none policy bits = refl

module _ (policy : Policy) (bits b kept : ℕ) (inv : kept ≡ kept_to policy bits b) where
  pub bits_room : kept < 2 ^ b
  unfolding kept_to
  bits_room = let h = kept_below_lem b (λ p. policy_admits policy (class_of p)) bits in omega arith

  pub bits_skip : (r : Bool) → r ≡ kept_bit policy bits b → not r ≡ true → kept ≡ kept_to policy bits (b + 1)
  unfolding kept_to kept_below kept_bit
  bits_skip r is e = rw (add-one, ← is, not-true r e, add-zero) inv

  pub bits_more : (r : Bool) (n : ℕ) → r ≡ kept_bit policy bits b → not r ≡ false → n ≡ kept + 2 ^ b → n ≡ kept_to policy bits (b + 1)
  unfolding kept_to kept_below kept_bit
  bits_more r n is e d = rw (add-one, ← is, not-false r e) (d ∙ ap (λ (k : ℕ). k + 2 ^ b) inv)

  pub bits_done : 16 ≤ b → b ≤ 16 → kept ≡ kept_bits policy bits
  unfolding kept_to
  bits_done h l = let e : b ≡ 16 = omega arith in inv ∙ ap (kept_to policy bits) e

-- The permissions that are kept are among those that are set.
kept_among : (k : ℕ) (p : ℕ → Bool) (bits : ℕ) → kept_below k p bits ≤ bits % 2 ^ k
unfolding kept_below
kept_among zero p bits = omega arith
kept_among (suc k) p bits = pick (bit k bits) refl (p k) refl (kept_among k p bits)
  where
    digits : bits % 2 ^ suc k ≡ (bits / 2 ^ k % 2) * 2 ^ k + bits % 2 ^ k
    digits = ap (λ (n : ℕ). bits % n) (pow-succ' 2 k) ∙ mod-mul bits (omega arith) (pow_pos k)

    pick : (x : Bool) → bit k bits ≡ x → (y : Bool) → p k ≡ y → kept_below k p bits ≤ bits % 2 ^ k → kept_below k p bits + (if bit k bits && p k then 2 ^ k else 0) ≤ bits % 2 ^ suc k
    pick true e true d h =
        let one : (bits / 2 ^ k % 2) * 2 ^ k ≡ 1 * 2 ^ k = ap (λ (n : ℕ). n * 2 ^ k) (eqb-true (bits / 2 ^ k % 2) 1 e) in
        rw (e, d) (omega (arith, digits))
    pick true e false d h = rw (e, d) (omega (arith, digits))
    pick false e y d h = rw e (omega (arith, digits))

pub kept_most : (policy : Policy) (bits n : ℕ) → n ≡ kept_bits policy bits → n ≤ bits
kept_most policy bits n e = let h = kept_among 16 (λ p. policy_admits policy (class_of p)) bits in omega arith

-- The step that an action fails, by what the code found in the bundle.
pub failure_found : (b : List Bytes) (policy : Policy) (hkm hkre : Option Bytes) (a : Action) (f : Option Step) → policy ≡ policy_of b → hkm ≡ module_key b → hkre ≡ recovery_key b
    → f ≡ failure_under policy hkm hkre a → f ≡ action_failure b a
failure_found b policy hkm hkre a f p m r e = rw (← p, ← m, ← r) e

-- The same by the action's kind, which asks for the policy, for one key, or for both the policy and the other key.
module _ (b : List Bytes) (r : Bytes) (x : Option Step) where
  pub permission_found : (p : Policy) → kind r ≡ 3 → p ≡ policy_of b → x ≡ permissions_failure p (number 4 2 r) → x ≡ action_failure b (action_of r none)
  unfolding failure_under
  permission_found p k e h =
      failure_found b p (module_key b) (recovery_key b) (action_of r none) x e refl refl
      (by_kind (failure_under p (module_key b) (recovery_key b)) r none x (rw (eq-eqb (kind r) 3 k) h))

  pub blob_found : (hkm : Option Bytes) → kind r ≡ 4 → hkm ≡ module_key b → x ≡ blob_failure hkm (blob_rule_of r) → x ≡ action_failure b (action_of r none)
  unfolding failure_under
  blob_found hkm k e h =
      failure_found b (policy_of b) hkm (recovery_key b) (action_of r none) x refl e refl
      (by_kind (failure_under (policy_of b) hkm (recovery_key b)) r none x (rw (ne_eqb (kind r) 3 (λ z. omega arith), eq-eqb (kind r) 4 k) h))

  pub archive_found : (p : Policy) (hkre : Option Bytes) → (kind r ≡ 3 → ⊥) → (kind r ≡ 4 → ⊥) → p ≡ policy_of b → hkre ≡ recovery_key b → x ≡ archive_failure p hkre (archive_rule_of r)
      → x ≡ action_failure b (action_of r none)
  unfolding failure_under
  archive_found p hkre n m e d h =
      failure_found b p (module_key b) hkre (action_of r none) x e refl d
      (by_kind (failure_under p (module_key b) hkre) r none x (rw (ne_eqb (kind r) 3 n, ne_eqb (kind r) 4 m) h))

-- Whether the desk checks a group, by its record and the officer's key.
pub checked_found : (b : List Bytes) (r : Bytes) (officer : Option Bytes) (n : Bool) → officer ≡ field 4 b → n ≡ both_same officer (optional (flag 0 r) (part 4 hash_bytes r)) → not n ≡ is_checked b r
unfolding is_checked
checked_found b r officer n o e = rw (← o) (ap not e)

-- What a run of steps found.
pub passed : {A : Type 0} (b : List Bytes) (r : Bytes) (x : Result A code.Step) → failure_as x ≡ action_failure b (action_of r none) → is_ok x ≡ action_passes b r
unfolding action_passes
passed b r (Ok x) e = rw (← e)
passed b r (Err s) e = rw (← e)

-- The bytes that are left of a record.
pub left_size : (b : List Bytes) (fate : prelude.Option Kept) (r : Bytes) → length r ≡ record_bytes → length (left_of b fate r) ≡ size_of fate
unfolding left_of
left_size b (Some Whole) r w = w
left_size b (Some Fewer) r w = (masked (kept_bits (policy_of b) (number 4 2 r)) r w).whole
left_size b None r w = refl

module _ (b : List Bytes) (checked : Bool) (r : Bytes) where
  stays_as : stays b checked r ≡ is_some (on_action b checked r)
  unfolding stays on_action
  stays_as = pick checked refl (action_passes b r) refl (eqb (kind r) 3) refl
    where
      pick : (c : Bool) → checked ≡ c → (p : Bool) → action_passes b r ≡ p → (q : Bool) → eqb (kind r) 3 ≡ q → stays b checked r ≡ is_some (on_action b checked r)
      pick false u p e q d = rw u
      pick true u true e q d = rw (u, e)
      pick true u false e true d = rw (u, e, d)
      pick true u false e false d = rw (u, e, d)

  left_as : stays b checked r ≡ true → trimmed_record b checked r ≡ left_of b (on_action b checked r) r
  unfolding stays trimmed_record on_action left_of
  left_as s = pick checked refl (action_passes b r) refl (eqb (kind r) 3) refl
    where
      pick : (c : Bool) → checked ≡ c → (p : Bool) → action_passes b r ≡ p → (q : Bool) → eqb (kind r) 3 ≡ q → trimmed_record b checked r ≡ left_of b (on_action b checked r) r
      pick false u p e q d = rw u
      pick true u true e q d = rw (u, e)
      pick true u false e true d = rw (u, e, d)
      pick true u false e false d = absurd (false≢true (rw (u, e, d) at s))

  gone_as : stays b checked r ≡ false → [] ≡ left_of b (on_action b checked r) r
  unfolding left_of
  gone_as s = pick (on_action b checked r) refl
    where
      pick : (f : prelude.Option Kept) → on_action b checked r ≡ f → [] ≡ left_of b f r
      pick (Some Whole) e = absurd (not_both (stays b checked r) (stays_as ∙ ap is_some e) s)
      pick (Some Fewer) e = absurd (not_both (stays b checked r) (stays_as ∙ ap is_some e) s)
      pick None e = refl

  -- whether an action stays, by what the code does with it
  pub action_stays : (fate : prelude.Option Kept) → fate ≡ on_action b checked r → stays b checked r ≡ is_some fate
  action_stays fate e = rw e stays_as

-- One record of an ACL: what is left of it, and what is left of the rest.
module _ (b : List Bytes) (checked kept : Bool) (r : Bytes) (rs : List Bytes) where
  abbrev Turn : prelude.Option Kept → Type 0
  Turn fate = joined (trimmed_from b checked kept (r ∷ rs)) ≡ left_of b fate r ++ joined (trimmed_from b (checked_after b checked r) (kept_after fate kept r) rs)

  turn : Turn (on_record b checked kept r)
  unfolding trimmed_from joined left_of on_record kept_after checked_after
  turn = pick (eqb (kind r) 1) refl (eqb (kind r) 2) refl (eqb (kind r) 15) refl (stays b checked r) refl
    where
      file : (k : Bool) → joined (kept_before k r (trimmed_from b checked k rs)) ≡ left_of b (if k then Some Whole else None) r ++ joined (trimmed_from b checked (is_some (if k then Some Whole else None)) rs)
      file true = refl
      file false = refl

      pick : (x : Bool) → eqb (kind r) 1 ≡ x → (y : Bool) → eqb (kind r) 2 ≡ y → (z : Bool) → eqb (kind r) 15 ≡ z → (s : Bool) → stays b checked r ≡ s → Turn (on_record b checked kept r)
      pick true e y d z f s g = rw e
      pick false e true d z f s g = rw (e, d)
      pick false e false d true f s g = rw (e, d, f) (file kept)
      pick false e false d false f true g = rw (e, d, f, g, ← left_as b checked r g, ← stays_as b checked r, g)
      pick false e false d false f false g = rw (e, d, f, g, ← gone_as b checked r g, ← stays_as b checked r, g)

  pub record_turn : (fate : prelude.Option Kept) → fate ≡ on_record b checked kept r → Turn fate
  record_turn fate e = rw e turn
