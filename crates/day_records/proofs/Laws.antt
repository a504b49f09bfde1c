-- The fault of a request record by what the test of it answered.
use mathlib.Core.Path.{◌≡◌, sym, ◌∙◌}
use mathlib.Core.Option.{none, some}
use mathlib.Core.Bool.{Bool, true, false}
use Rattle.rules.specs.Numbers.{malformed}
use Rattle.rules.specs.Basics.{Bytes}
use Rattle.rules.specs.Request.{stands_alone, request_record_fault}

module _ (r : Bytes) (a : Bool) (e : a ≡ stands_alone r) where
  pub request_bad : a ≡ false → request_record_fault r ≡ some malformed
  unfolding request_record_fault
  request_bad h = rw (sym e ∙ h)

  pub request_sound : a ≡ true → request_record_fault r ≡ none
  unfolding request_record_fault
  request_sound h = rw (sym e ∙ h)
