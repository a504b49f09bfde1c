-- The prepared form of the code, as the definitions have it, and what one group record more does to it.
use Rattle.std.specs.Prelude.{ℕ, ◌+◌, ◌*◌, ◌/◌, ◌%◌, List, [], ◌∷◌, Result, Ok, Err}
use Rattle.std.specs.Int.Bits.{bit_or}
use Rattle.rules.specs.Acl.{Action, permissions, make_blob, make_archive}
use Rattle.rules.specs.Prepared as rules
use Rattle.refusals.specs.declared.Refusal.{Refusal}
use Rattle.refusals.specs.Refusals.{refusal_number}
use Rattle.run_form.specs.declared.Prepared.{Prepared}

-- a form
abbrev pub form_as : Prepared → rules.Form
form_as p = record { uses = p.uses; working = p.working; recovery = p.recovery }

-- what is answered where a form is asked for
abbrev pub preparation_as : Result Prepared Refusal → rules.Preparation
preparation_as (Ok p) = rules.prepared (form_as p)
preparation_as (Err r) = rules.unprepared (refusal_number r)

-- sets with one group more, before those they have: the sets from one permission on, of which the lowest bit tells of the new group
unfoldable pub doubled : ℕ → List ℕ → List ℕ
doubled bits [] = []
doubled bits (n ∷ ns) = (n * 2 + bits % 2) ∷ doubled (bits / 2) ns

-- the permissions that some of the actions set, as bits
unfoldable pub bits_with : Action → ℕ → ℕ
bits_with (permissions b) n = bit_or b n
bits_with (make_blob b f) n = n
bits_with (make_archive a f) n = n

unfoldable pub bits_of : List Action → ℕ
bits_of [] = 0
bits_of (a ∷ rest) = bits_with a (bits_of rest)
