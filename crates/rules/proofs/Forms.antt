-- The set of a permission in a prepared form; and that an action admits a blob only if it is of the blob's kind. (That the form is exact: theorems, Prepared.)
use Prim.Native.Nat.{ℕ, zero, suc, ◌+◌, ◌<◌}
use native.Mathlib.Omega.{arith}
use native.Mathlib.Nat.{add-zero, zero-add}
use mathlib.Core.Path.{◌≡◌, refl, sym, ◌∙◌, ap}
use mathlib.Core.List.{List, [], ◌∷◌}
use mathlib.Core.Option.{Option}
use mathlib.Core.Bool.{Bool, true, false, ◌&&◌, ◌||◌, false≢true}
use lib.ListN.{get_or}
use borrow.Author.Tests.{eqb-true}
use Rattle.rules.specs.Sizes.{permissions_max}
use Rattle.rules.specs.Basics.{Bytes, any}
use Rattle.rules.specs.Acl.{Action, permissions, make_blob, make_archive, Group}
use Rattle.rules.specs.Request.{WorkingBlob, RecoveryBlob, Blobfile}
use Rattle.rules.specs.Grant.{admits_working, admits_recovery}
use Rattle.rules.specs.Desk.{is_archive}
use Rattle.rules.specs.Prepared.{is_blob_action, Form, use_set, use_sets, form_of, same_form}
use Rattle.rules.proofs.Laws.{and_left, and_right, same_eq}

uses_at : (gs : List Group) (from n p : ℕ) → p < n → get_or (use_sets gs from n) p 0 ≡ use_set gs (from + p)
unfolding use_sets
uses_at gs from zero p h = absurd (omega arith)
uses_at gs from (suc n) zero h = rw add-zero
uses_at gs from (suc n) (suc p) h =
    let e : suc from + p ≡ from + suc p = omega arith in
    uses_at gs (suc from) n p (omega arith) ∙ ap (use_set gs) e

pub form_use : (gs : List Group) (p : ℕ) → p < permissions_max → get_or (form_of gs).uses p 0 ≡ use_set gs p
unfolding form_of
form_use gs p h = uses_at gs 0 permissions_max p h ∙ rw zero-add

-- where a test is part of another, some element that passes the second is one that passes the first
pub any_part : {A : Type 0} (p q : A → Bool) (xs : List A) → ((x : A) → q x ≡ true → p x ≡ true) → (any p xs && any q xs) ≡ any q xs
unfolding any
any_part p q [] f = refl
any_part p q (x ∷ xs) f = pick (p x) refl (q x) refl (any_part p q xs f)
  where
    pick : (a : Bool) → p x ≡ a → (b : Bool) → q x ≡ b → (any p xs && any q xs) ≡ any q xs → ((p x || any p xs) && (q x || any q xs)) ≡ (q x || any q xs)
    pick true d b e g = rw d
    pick false d true e g = absurd (false≢true (sym d ∙ f x e))
    pick false d false e g = rw (d, e) g

pub working_part : (km0 : Bytes) (w : WorkingBlob) (f : Option Blobfile) (a : Action) → admits_working km0 w f a ≡ true → is_blob_action a ≡ true
unfolding admits_working
working_part km0 w f (permissions bits) e = e
working_part km0 w f (make_blob b r) e = refl
working_part km0 w f (make_archive a r) e = e

pub recovery_part : (w : RecoveryBlob) (f : Option Blobfile) (a : Action) → admits_recovery w f a ≡ true → is_archive a ≡ true
unfolding admits_recovery
recovery_part w f (permissions bits) e = e
recovery_part w f (make_blob b r) e = e
recovery_part w f (make_archive a r) e = refl

ruleset conj = (and_left, and_right)

-- forms that count as the same are the same
pub same_form_lem : (f h : Form) → same_form f h ≡ true → f ≡ h
unfolding same_form
same_form_lem f h e =
    let a : f.uses ≡ h.uses = same_eq f.uses h.uses (search conj) in
    let b : f.working ≡ h.working = eqb-true f.working h.working (search conj) in
    let c : f.recovery ≡ h.recovery = eqb-true f.recovery h.recovery (search conj) in
    rw (a, b, c)
