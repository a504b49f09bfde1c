-- The letters of a replay script (docs/REPLAY.md) that call the gate or the cabinet, by their numbers, and the definition that each stands for.
use Rattle.std.specs.Prelude.{ℕ, Bool, ◌||◌, eqb, if◌then◌else◌}
use Rattle.rules.specs.Sizes.{slots_max}
use Rattle.rules.specs.Basics.{Bytes}
use Rattle.rules.specs.Ledger.{Ledger, fresh_ledger}
use Rattle.rules.specs.Gate.{done, Outcome, load, clear, request, narrow, expand}
use Rattle.rules.specs.Cabinet.{Cabinet, CabinetOutcome, fresh_cabinet, cabinet_load, cabinet_clear, cabinet_request, cabinet_narrow, cabinet_expand}

-- F, L, C, R, N, X
abbrev pub is_ledgers : ℕ → Bool
is_ledgers letter = eqb letter 70 || eqb letter 76 || eqb letter 67 || eqb letter 82 || eqb letter 78 || eqb letter 88

-- a letter of the ledger's: fresh, load, clear, request, narrow, expand
unfoldable pub ledger_answer : Ledger → ℕ → ℕ → Bytes → Bytes → Bytes → Bytes → Bytes → Outcome
ledger_answer l letter number km0 acl req new hints =
    if eqb letter 70 then record { answer = done; ledger = fresh_ledger }
    else if eqb letter 76 then load l number
    else if eqb letter 67 then clear l number
    else if eqb letter 82 then request l km0 acl req
    else if eqb letter 78 then narrow l km0 acl req new hints
    else expand l km0 acl req new

-- f, l, c, r, n, x
abbrev pub is_cabinets : ℕ → Bool
is_cabinets letter = eqb letter 102 || eqb letter 108 || eqb letter 99 || eqb letter 114 || eqb letter 110 || eqb letter 120

-- a letter of the cabinet's: the same. The number is a slot's or, for a clear, a counter's
unfoldable pub cabinet_answer : Cabinet → ℕ → ℕ → ℕ → Bytes → Bytes → Bytes → Bytes → Bytes → CabinetOutcome
cabinet_answer c letter place time km0 acl req new hints =
    if eqb letter 102 then record { answer = done; cabinet = fresh_cabinet }
    else if eqb letter 108 then cabinet_load c place time
    else if eqb letter 99 then cabinet_clear c place
    else if eqb letter 114 then cabinet_request c place km0 acl req
    else if eqb letter 110 then cabinet_narrow c place km0 acl req new hints
    else cabinet_expand c place km0 acl req new

-- the slot that a call of the cabinet names; past the last where it takes none
abbrev pub slot_of : ℕ → ℕ → ℕ
slot_of letter place = if eqb letter 102 || eqb letter 99 then slots_max else place
