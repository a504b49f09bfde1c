-- The form of an ACL file, or the file's own refusal.
use Prim.Native.Nat.{◌≤◌}
use mathlib.Core.Path.{◌≡◌, ap}
use mathlib.Core.Option.{none, some}
use lib.ListN.{length}
use Rattle.std.specs.Prelude.{Result, Ok, Err}
use Rattle.std.specs.Result.{IsErrAnd, IsErr}
use Rattle.refusals.specs.declared.Refusal.{Refusal}
use Rattle.refusals.specs.Refusals.{refusal_number}
use Rattle.run_form.specs.declared.Prepared.{Prepared}
use Rattle.run_form.specs.Forms.{preparation_as}
use Rattle.rules.specs.Sizes.{set_bits}
use Rattle.rules.specs.Basics.{Bytes, file_fault}
use Rattle.rules.specs.Acl.{acl_of, acl_file_fault}
use Rattle.rules.specs.Prepared.{Form, form_of, prepared, unprepared, prepare}
use Rattle.rules.proofs.Laws.{fault_none_every}
use Rattle.rules.proofs.AclSizes.{acl_fits}

-- an ACL file without fault has no more groups than a set has bits
pub file_few : (acl : Bytes) → acl_file_fault acl ≡ none → length (acl_of acl) ≤ set_bits
unfolding file_fault
file_few acl e = let h = fault_none_every _ e in (acl_fits acl h.1.0).groups

-- the form, or the file's refusal
pub not_prepared : (acl : Bytes) (x : Result Prepared Refusal) (r : Refusal) → IsErr x × IsErrAnd x (λ e. e ≡ r) → some (refusal_number r) ≡ acl_file_fault acl → preparation_as x ≡ prepare acl
unfolding prepare
not_prepared acl (Ok f) r h e = absurd h.1
not_prepared acl (Err t) r h e = rw (← e) (ap (λ (k : Refusal). unprepared (refusal_number k)) h.1)

pub is_prepared : (acl : Bytes) (f : Form) → acl_file_fault acl ≡ none → f ≡ form_of (acl_of acl) → prepared f ≡ prepare acl
unfolding prepare
is_prepared acl f e d = rw (e, d)
