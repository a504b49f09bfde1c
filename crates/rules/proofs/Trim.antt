-- The trimming tool's definitions (specs/Trim.antt) as code meets them: a record with other bits, lengths and places, and the ways that the tool ends.
use Prim.Native.Nat.{ℕ, suc, ◌+◌, ◌≤◌, ◌<◌}
use native.Mathlib.Omega.{arith}
use mathlib.Core.Path.{◌≡◌, refl, sym, ◌∙◌, ap}
use mathlib.Core.List.{List, [], ◌∷◌}
use mathlib.Core.Option.{none, some}
use mathlib.Core.Bool.{Bool, true, false, not, ◌&&◌}
use lib.ListN.{length}
use lib.Dec.{eqb}
use borrow.Author.Tests.{ltb-true}
use Rattle.rules.specs.Sizes.{actions_max}
use Rattle.rules.specs.Numbers.{short_buffer}
use Rattle.rules.specs.Basics.{Bytes, Every, number, kind, first_fault, scan, records}
use Rattle.rules.specs.Layout.{header, permissions_laid_out}
use Rattle.rules.specs.Acl.{AclState, has_room_under, after_record, acl_record_fault}
use Rattle.rules.specs.Written.{big_endian}
use Rattle.rules.specs.Bundle.{policy_of}
use Rattle.rules.specs.Desk.{Step, before_acl, desk_fault}
use Rattle.rules.specs.Trim.{roomy, kept_bits, with_bits, is_checked, action_passes, stays, trimmed_record, kept_before, trimmed_from, kept_indices, untrimmed, unread, trim_fault}
use Rattle.rules.proofs.Laws.{or_next_first, or_next_next}
use Rattle.rules.proofs.Joined.{Whole}
use Rattle.rules.proofs.Places.{acl_from, record_has_room}
use Rattle.rules.proofs.Written.{big_endian_number}

-- a record with other bits
pub record Masked (n : ℕ) (r : Bytes) : Type 0 where
  pub whole : Whole (with_bits n r)
  pub same_kind : kind (with_bits n r) ≡ kind r
  pub same_flags : number 2 2 (with_bits n r) ≡ number 2 2 r
  pub bits : number 4 2 (with_bits n r) ≡ n
  pub laid_out : permissions_laid_out (with_bits n r) ≡ permissions_laid_out r

pub masked : (n : ℕ) (r : Bytes) → Whole r → Masked n r
unfolding with_bits big_endian permissions_laid_out header
masked n [] w = absurd (omega arith)
masked n (a ∷ []) w = absurd (omega arith)
masked n (a ∷ b ∷ []) w = absurd (omega arith)
masked n (a ∷ b ∷ c ∷ []) w = absurd (omega arith)
masked n (a ∷ b ∷ c ∷ d ∷ []) w = absurd (omega arith)
masked n (a ∷ b ∷ c ∷ d ∷ e ∷ []) w = absurd (omega arith)
masked n (a ∷ b ∷ c ∷ d ∷ e ∷ f ∷ rest) w = record { whole = w; same_kind = refl; same_flags = refl; bits = big_endian_number 1 n; laid_out = refl }

pub record_whole : (b : List Bytes) (checked : Bool) (r : Bytes) → Whole r → Whole (trimmed_record b checked r)
unfolding trimmed_record
record_whole b checked r w = pick (checked && not (action_passes b r)) refl
  where
    pick : (t : Bool) → (checked && not (action_passes b r)) ≡ t → Whole (trimmed_record b checked r)
    pick true e = rw e (masked (kept_bits (policy_of b) (number 4 2 r)) r w).whole
    pick false e = rw e w

-- Each record that stays has 64 bytes, and there are no more than before.
pub trimmed_whole : (b : List Bytes) (checked kept : Bool) (rs : List Bytes) → Every Whole rs → Every Whole (trimmed_from b checked kept rs)
unfolding trimmed_from
trimmed_whole b checked kept [] h = tt
trimmed_whole b checked kept (r ∷ rs) h =
    pick (eqb (kind r) 1) refl (eqb (kind r) 2) refl (eqb (kind r) 15) refl (stays b checked r) refl (λ c k. trimmed_whole b c k rs h.1)
  where
    Rest : Type 0
    Rest = (c k : Bool) → Every Whole (trimmed_from b c k rs)

    before : (k : Bool) → Every Whole (trimmed_from b checked kept rs) → Every Whole (kept_before k r (trimmed_from b checked kept rs))
    before true f = (h.0, f)
    before false f = f

    pick : (s : Bool) → eqb (kind r) 1 ≡ s → (t : Bool) → eqb (kind r) 2 ≡ t → (x : Bool) → eqb (kind r) 15 ≡ x → (u : Bool) → stays b checked r ≡ u → Rest → Every Whole (trimmed_from b checked kept (r ∷ rs))
    pick true p t q x y u v f = rw p (h.0, f (is_checked b r) kept)
    pick false p true q x y u v f = rw (p, q) (h.0, f checked kept)
    pick false p false q true y u v f = rw (p, q, y) (before kept (f checked kept))
    pick false p false q false y true v f = rw (p, q, y, v) (record_whole b checked r h.0, f checked true)
    pick false p false q false y false v f = rw (p, q, y, v) (f checked false)

pub trimmed_few : (b : List Bytes) (checked kept : Bool) (rs : List Bytes) → length (trimmed_from b checked kept rs) ≤ length rs
unfolding trimmed_from
trimmed_few b checked kept [] = omega arith
trimmed_few b checked kept (r ∷ rs) =
    pick (eqb (kind r) 1) refl (eqb (kind r) 2) refl (eqb (kind r) 15) refl (stays b checked r) refl (λ c k. trimmed_few b c k rs)
  where
    Rest : Type 0
    Rest = (c k : Bool) → length (trimmed_from b c k rs) ≤ length rs

    before : (k : Bool) → length (trimmed_from b checked kept rs) ≤ length rs → length (kept_before k r (trimmed_from b checked kept rs)) ≤ suc (length rs)
    before true f = omega arith
    before false f = omega arith

    pick : (s : Bool) → eqb (kind r) 1 ≡ s → (t : Bool) → eqb (kind r) 2 ≡ t → (x : Bool) → eqb (kind r) 15 ≡ x → (u : Bool) → stays b checked r ≡ u → Rest → length (trimmed_from b checked kept (r ∷ rs)) ≤ suc (length rs)
    pick true p t q x y u v f = let l = f (is_checked b r) kept in rw p (omega arith)
    pick false p true q x y u v f = let l = f checked kept in rw (p, q) (omega arith)
    pick false p false q true y u v f = rw (p, q, y) (before kept (f checked kept))
    pick false p false q false y true v f = let l = f checked true in rw (p, q, y, v) (omega arith)
    pick false p false q false y false v f = let l = f checked false in rw (p, q, y, v) (omega arith)

-- a group has at most 8 actions
pub few_places : (b : List Bytes) (checked : Bool) (place : ℕ) (s : AclState) (rs : List Bytes) → acl_from s rs ≡ none → s.actions ≤ actions_max → s.actions + length (kept_indices b checked place rs) ≤ actions_max
unfolding scan kept_indices after_record has_room_under
few_places b checked place s [] e h = omega arith
few_places b checked place s (r ∷ rs) e h =
    pick (eqb (kind r) 1) refl (eqb (kind r) 2) refl (eqb (kind r) 15) refl (stays b checked r) refl (or_next_first (acl_record_fault s r) _ e)
    (λ k. few_places b checked k (after_record s r) rs (or_next_next (acl_record_fault s r) _ e))
  where
    Rest : Type 0
    Rest = (k : ℕ) → (after_record s r).actions ≤ actions_max → (after_record s r).actions + length (kept_indices b checked k rs) ≤ actions_max

    pick : (x : Bool) → eqb (kind r) 1 ≡ x → (y : Bool) → eqb (kind r) 2 ≡ y → (t : Bool) → eqb (kind r) 15 ≡ t → (z : Bool) → stays b checked r ≡ z → acl_record_fault s r ≡ none → Rest → s.actions + length (kept_indices b checked place (r ∷ rs)) ≤ actions_max
    pick true p y q t u z v d f = rw p (omega arith)
    pick false p true q t u z v d f = rw (p, q) (rw (same p q) at (f place (rw (same p q) h)))
      where
        same : eqb (kind r) 1 ≡ false → eqb (kind r) 2 ≡ true → (after_record s r).actions ≡ s.actions
        same p q = rw (p, q)
    pick false p false q true u z v d f = rw (p, q, u) (rw same at (f place (rw same h)))
      where
        same : (after_record s r).actions ≡ s.actions
        same = rw (p, q, u)
    pick false p false q false u z v d f = kept z v
      where
        one : (after_record s r).actions ≡ s.actions + 1
        one = rw (p, q, u)

        below : s.actions < actions_max
        below = ltb-true s.actions actions_max (rw (p, q, u) at (record_has_room s r d))

        kept : (z : Bool) → stays b checked r ≡ z → s.actions + length (kept_indices b checked place (r ∷ rs)) ≤ actions_max
        kept true v = let l = f (place + 1) (omega (arith, one, below)) in rw (p, q, u, v) (omega (arith, one))
        kept false v = let l = f (place + 1) (omega (arith, one, below)) in rw (p, q, u, v) (omega (arith, one))

-- after a group's record reading has met no action of it
pub fresh_group : (s : AclState) (r : Bytes) → eqb (kind r) 1 ≡ true → (after_record s r).actions ≡ 0
unfolding after_record
fresh_group s r p = rw p

pub group_places : (b : List Bytes) (s : AclState) (r : Bytes) (rs : List Bytes) → eqb (kind r) 1 ≡ true → acl_from (after_record s r) rs ≡ none → length (kept_indices b (is_checked b r) 0 rs) ≤ actions_max
group_places b s r rs p e = let z = fresh_group s r p in let l = few_places b (is_checked b r) 0 (after_record s r) rs e (omega arith) in omega arith

-- a kept action's old place is below 8
pub places_below : (b : List Bytes) (checked : Bool) (place : ℕ) (s : AclState) (rs : List Bytes) → acl_from s rs ≡ none → place ≡ s.actions → Every (λ p. p < actions_max) (kept_indices b checked place rs)
unfolding scan kept_indices after_record has_room_under
places_below b checked place s [] e h = tt
places_below b checked place s (r ∷ rs) e h =
    pick (eqb (kind r) 1) refl (eqb (kind r) 2) refl (eqb (kind r) 15) refl (stays b checked r) refl (or_next_first (acl_record_fault s r) _ e)
    (λ k. places_below b checked k (after_record s r) rs (or_next_next (acl_record_fault s r) _ e))
  where
    Rest : Type 0
    Rest = (k : ℕ) → k ≡ (after_record s r).actions → Every (λ p. p < actions_max) (kept_indices b checked k rs)

    pick : (x : Bool) → eqb (kind r) 1 ≡ x → (y : Bool) → eqb (kind r) 2 ≡ y → (t : Bool) → eqb (kind r) 15 ≡ t → (z : Bool) → stays b checked r ≡ z → acl_record_fault s r ≡ none → Rest → Every (λ p. p < actions_max) (kept_indices b checked place (r ∷ rs))
    pick true p y q t u z v d f = rw p tt
    pick false p true q t u z v d f = rw (p, q) (f place (h ∙ sym same))
      where
        same : (after_record s r).actions ≡ s.actions
        same = rw (p, q)
    pick false p false q true u z v d f = rw (p, q, u) (f place (h ∙ sym same))
      where
        same : (after_record s r).actions ≡ s.actions
        same = rw (p, q, u)
    pick false p false q false u z v d f = kept z v
      where
        next : place + 1 ≡ (after_record s r).actions
        next = rw (p, q, u) (ap (λ (n : ℕ). n + 1) h)

        below : place < actions_max
        below = let l = ltb-true s.actions actions_max (rw (p, q, u) at (record_has_room s r d)) in omega arith

        kept : (z : Bool) → stays b checked r ≡ z → Every (λ p. p < actions_max) (kept_indices b checked place (r ∷ rs))
        kept true v = rw (p, q, u, v) (below, f (place + 1) next)
        kept false v = rw (p, q, u, v) (f (place + 1) next)

-- The ways that the tool ends: as the desk refuses, at a step before the ACL, with 9, or with both results written.
module _ (bundle acl aclBuffer hintBuffer : Bytes) where
  pub fault_refused : (f : ℕ) → desk_fault bundle acl ≡ some f → trim_fault bundle acl aclBuffer hintBuffer ≡ some (unread f)
  unfolding trim_fault first_fault
  fault_refused f e = rw e

  pub fault_step : (s : Step) → desk_fault bundle acl ≡ none → before_acl (records bundle) ≡ some s → trim_fault bundle acl aclBuffer hintBuffer ≡ some (untrimmed s)
  unfolding trim_fault first_fault
  fault_step s e d = rw (e, d)

  pub fault_short : desk_fault bundle acl ≡ none → before_acl (records bundle) ≡ none → roomy bundle acl aclBuffer hintBuffer ≡ false → trim_fault bundle acl aclBuffer hintBuffer ≡ some (unread short_buffer)
  unfolding trim_fault first_fault
  fault_short e d r = rw (e, d, r)

  pub fault_none : desk_fault bundle acl ≡ none → before_acl (records bundle) ≡ none → roomy bundle acl aclBuffer hintBuffer ≡ true → trim_fault bundle acl aclBuffer hintBuffer ≡ none
  unfolding trim_fault first_fault
  fault_none e d r = rw (e, d, r)
