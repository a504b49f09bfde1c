-- What a run knows of its ACL, of the table of its groups and of the form.
use Rattle.std.specs.Prelude.{ℕ, List, ◌≡◌}
use Rattle.std.proofs.Math.Option.{none}
use Rattle.rules.specs.Basics.{Bytes, records}
use Rattle.rules.specs.Acl.{acl_of, acl_fault}
use Rattle.rules.specs.Prepared.{form_of}
use Rattle.run_form.specs.declared.Prepared.{Prepared}
use Rattle.run_form.specs.Forms.{form_as}
use Rattle.run_form.specs.Places.{Offsets}

-- the ACL is without fault, and table and form are those made of it
pub record Ready (acl : Bytes) (bodies : List ℕ) (form : Prepared) : Type 0 where
  pub sound : acl_fault (records acl) ≡ none
  pub places : Offsets acl bodies
  pub form_is : form_as form ≡ form_of (acl_of acl)
