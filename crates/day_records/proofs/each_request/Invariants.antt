use mathlib.Core.Path.{◌≡◌}
use lib.ListN.{drop}
use Rattle.rules.specs.Basics.{each_fault}
use Rattle.rules.specs.Request.{request_record_fault}
use Rattle.day_records.proofs.each_request.Given as goal

abbrev pub invariant-loop-rec : goal.invariant-loop-rec
invariant-loop-rec l = each_fault request_record_fault (drop l.rec-index l.rec-items) ≡ each_fault request_record_fault l.rec-items
