use mathlib.Core.Path.{◌≡◌}
use mathlib.Core.List.{map}
use lib.ListN.{drop}
use Rattle.rules.specs.Request.{hint_of}
use Rattle.gate_counts.specs.Carried.{carried_from}
use Rattle.gate_counts.proofs.carry_all.Given as goal

abbrev pub invariant-loop-i : goal.invariant-loop-i
invariant-loop-i l = carried_from l.from l.i (map hint_of (drop l.i l.hint-items)) l.table ≡ carried_from l.from 0 (map hint_of l.hint-items) l.initial.table
