use mathlib.Core.Path.{◌≡◌}
use lib.ListN.{drop}
use Rattle.rules.specs.Basics.{any, records}
use Rattle.rules.specs.Acl.{actions_of}
use Rattle.rules.specs.Grant.{admits_use}
use Rattle.gate_admission.proofs.admits_some_use.Given as goal

abbrev pub invariant-loop-act : goal.invariant-loop-act
invariant-loop-act l = any (admits_use l.p) (actions_of (drop l.act-index l.act-items)) ≡ any (admits_use l.p) (actions_of (records l.body))
