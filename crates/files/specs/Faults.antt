-- What a reader's answer says, by the numbers of document 01's table.
use Rattle.std.specs.Prelude.{ℕ}
use Rattle.std.proofs.Math.Option.{Option, none, some}
use Rattle.refusals.specs.Refusals.{refusal_number}
use Rattle.refusals.specs.declared.Refusal.{Refusal}
use Rattle.std.specs.Prelude.{Result, Ok, Err}

-- the first fault that a reader found, if any, by its number
abbrev pub fault_as : {A : Type 0} → Result A Refusal → Option ℕ
fault_as (Ok x) = none
fault_as (Err r) = some (refusal_number r)
