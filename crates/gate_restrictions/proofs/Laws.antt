-- Actions by their kinds, in the definitions' terms.
use mathlib.Core.Path.{◌≡◌, ◌∙◌, refl, sym}
use mathlib.Core.Option.{Option}
use mathlib.Core.Bool.{Bool, false}
use borrow.Author.Tests.{eq-eqb, ne_eqb}
use Rattle.rules.specs.Basics.{Bytes, number, kind}
use Rattle.rules.specs.Acl.{blob_rule_of, archive_rule_of, BlobfileRule, Action, permissions, make_blob, make_archive, action_of}
use Rattle.rules.specs.Narrow.{no_wider}
use Rattle.gate_restrictions.specs.declared.Kind.{Kind}
use Rattle.gate_restrictions.specs.declared.Kind.TheVariants.{Permissions, Blob, Archive}
use Rattle.gate_restrictions.specs.Kinds.{action_as}

-- An action by its kind.
module _ (r : Bytes) (file : Option BlobfileRule) where
  pub action_3 : kind r ≡ 3 → action_of r file ≡ permissions (number 4 2 r)
  unfolding action_of
  action_3 e = rw (eq-eqb (kind r) 3 e)

  pub action_4 : kind r ≡ 4 → action_of r file ≡ make_blob (blob_rule_of r) file
  unfolding action_of
  action_4 e = rw e

  pub action_5 : (kind r ≡ 3 → ⊥) → (kind r ≡ 4 → ⊥) → action_of r file ≡ make_archive (archive_rule_of r) file
  unfolding action_of
  action_5 f g = rw (ne_eqb (kind r) 3 f, ne_eqb (kind r) 4 g)

-- An action against another: from what each is by its kind.
pub by_kinds : (x y a b : Action) (r : Bool) → x ≡ a → y ≡ b → r ≡ no_wider a b → r ≡ no_wider x y
by_kinds x y a b r p q e = e ∙ sym (rw (p, q))

-- an action against one of another kind
module _ (n o : Bytes) (f g : Option BlobfileRule) (k : Kind) (q : action_of o g ≡ action_as k o g) where
  pub not_permissions : action_of n f ≡ action_as Permissions n f → (k ≡ Permissions → ⊥) → false ≡ no_wider (action_of n f) (action_of o g)
  unfolding no_wider
  not_permissions p h = by_kinds _ _ _ _ _ p q (other k h)
    where
      other : (k : Kind) → (k ≡ Permissions → ⊥) → false ≡ no_wider (action_as Permissions n f) (action_as k o g)
      other Permissions h = absurd (h refl)
      other Blob h = refl
      other Archive h = refl

  pub not_blob : action_of n f ≡ action_as Blob n f → (k ≡ Blob → ⊥) → false ≡ no_wider (action_of n f) (action_of o g)
  unfolding no_wider
  not_blob p h = by_kinds _ _ _ _ _ p q (other k h)
    where
      other : (k : Kind) → (k ≡ Blob → ⊥) → false ≡ no_wider (action_as Blob n f) (action_as k o g)
      other Permissions h = refl
      other Blob h = absurd (h refl)
      other Archive h = refl

  pub not_archive : action_of n f ≡ action_as Archive n f → (k ≡ Archive → ⊥) → false ≡ no_wider (action_of n f) (action_of o g)
  unfolding no_wider
  not_archive p h = by_kinds _ _ _ _ _ p q (other k h)
    where
      other : (k : Kind) → (k ≡ Archive → ⊥) → false ≡ no_wider (action_as Archive n f) (action_as k o g)
      other Permissions h = refl
      other Blob h = refl
      other Archive h = absurd (h refl)
