use Rattle.std.proofs.Common.{◌≡◌, ◌||◌, drop}
use Rattle.rules.specs.Basics.{any}
use Rattle.run_certificates.specs.Rows.{row_as, serving}
use Rattle.run_certificates.proofs.presented.Given as goal

abbrev pub invariant-loop-c : goal.invariant-loop-c
invariant-loop-c l = (l.found || any (serving l.group) (row_as (drop l.c-index l.row))) ≡ any (serving l.group) (row_as l.row)
