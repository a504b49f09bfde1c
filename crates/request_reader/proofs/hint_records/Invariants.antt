use mathlib.Core.Path.{◌≡◌}
use lib.ListN.{drop}
use Rattle.rules.specs.Basics.{each_fault}
use Rattle.rules.specs.Request.{hint_fault, hints_fault}
use Rattle.request_reader.proofs.hint_records.Given as goal

abbrev pub invariant-loop-rec : goal.invariant-loop-rec
invariant-loop-rec l = each_fault hint_fault (drop l.rec-index l.rec-items) ≡ hints_fault l.rec-items
