-- Which input of a call is at fault, and where.
use Rattle.std.specs.Prelude.{ℕ, Result, Ok, Err, List, [], ◌∷◌, Bool, true, false, not, ◌&&◌, length, eqb, if◌then◌else◌}
use Rattle.std.proofs.Math.Option.{Option, none, some}
use Rattle.rules.specs.Sizes.{hash_bytes, request_records}
use Rattle.rules.specs.Numbers.{malformed}
use Rattle.rules.specs.Basics.{Bytes, records, fits}
use Rattle.rules.specs.Request.{use_of, reduce_acl, expand_acl}
use Rattle.text_rules.specs.Kinds.{acl_kind, request_kind, hints_kind}
use Rattle.reason_files.specs.Places.{Place, sound, at_length, at_record, at_end, file_place, place_as}
use Rattle.reason_inputs.specs.declared.Input.{Input}
use Rattle.reason_inputs.specs.declared.Input.TheVariants.{Km0, Acl, Request, NewAcl, Hints}
use Rattle.reason_inputs.specs.declared.InputPlace as code
use Rattle.reason_inputs.specs.declared.Located.{Located}

-- An input of a call, or none, and where its first fault is.
pub record InputPlace : Type 0 where
  pub input : Option Input
  pub place : Place

-- no input
abbrev pub no_input : InputPlace
no_input = record { input = none; place = sound }

-- a bad length
abbrev pub is_length : Place → Bool
is_length sound = false
is_length at_length = true
is_length (at_record f i) = false
is_length (at_end f n) = false

-- any fault
abbrev pub is_fault : Place → Bool
is_fault sound = false
is_fault at_length = true
is_fault (at_record f i) = true
is_fault (at_end f n) = true

-- the first input whose place passes a test
unfoldable pub first_input : (Place → Bool) → List InputPlace → InputPlace
first_input test [] = no_input
first_input test (p ∷ ps) = if test p.place then p else first_input test ps

-- "1 over all inputs", then the inputs in their order
unfoldable pub inputs_place : List InputPlace → InputPlace
inputs_place ps = if is_length (first_input is_length ps).place then first_input is_length ps else first_input is_fault ps

-- "KM0 hash not 20 bytes"
abbrev pub km0_place : Bytes → Place
km0_place km0 = if eqb (length km0) hash_bytes then sound else at_length

-- the first record is one that does not ask for a use of permission p
abbrev pub asks_other : ℕ → List Bytes → Bool
asks_other p [] = false
asks_other p (r ∷ rs) = not (use_of p r)

-- a request file of a replacement, which refuses "any other request with 2": record 0
unfoldable pub use_place : ℕ → Bytes → Place
use_place p req = if fits request_records req && asks_other p (records req) then at_record malformed 0 else file_place request_kind req

-- an input at a place
abbrev pub input_at : Input → Place → InputPlace
input_at i p = record { input = some i; place = p }

-- the inputs of each call: "inputs in the order ACL, request with certificates, new ACL, hints", KM0 before them
abbrev pub request_inputs : Bytes → Bytes → Bytes → List InputPlace
request_inputs km0 acl req =
    input_at Km0 (km0_place km0)
    ∷ input_at Acl (file_place acl_kind acl)
    ∷ input_at Request (file_place request_kind req)
    ∷ []

abbrev pub narrow_inputs : Bytes → Bytes → Bytes → Bytes → Bytes → List InputPlace
narrow_inputs km0 acl req new hints =
    input_at Km0 (km0_place km0)
    ∷ input_at Acl (file_place acl_kind acl)
    ∷ input_at Request (use_place reduce_acl req)
    ∷ input_at NewAcl (file_place acl_kind new)
    ∷ input_at Hints (file_place hints_kind hints)
    ∷ []

abbrev pub expand_inputs : Bytes → Bytes → Bytes → Bytes → List InputPlace
expand_inputs km0 acl req new =
    input_at Km0 (km0_place km0)
    ∷ input_at Acl (file_place acl_kind acl)
    ∷ input_at Request (use_place expand_acl req)
    ∷ input_at NewAcl (file_place acl_kind new)
    ∷ []

-- an input with what the code found in it
abbrev pub located_as : Located → InputPlace
located_as p = input_at p.input (place_as p.found)

-- the code's answer
abbrev pub input_place_as : Result (Unit {0}) code.InputPlace → InputPlace
input_place_as (Ok x) = no_input
input_place_as (Err p) = input_at p.input (place_as (Err p.place))
