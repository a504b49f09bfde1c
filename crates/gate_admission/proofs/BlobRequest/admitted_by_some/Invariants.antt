use mathlib.Core.Path.{◌≡◌}
use Rattle.rules.specs.Basics.{any, records}
use Rattle.rules.specs.Acl.{actions_of}
use Rattle.rules.specs.Request.{blobfile_next, wanted_of}
use Rattle.rules.specs.Grant.{admits}
use Rattle.gate_admission.proofs.BlobRequest.admitted_by_some.Given as goal

abbrev pub invariant-loop-act : goal.invariant-loop-act
invariant-loop-act l =
    any (admits l.self.km0.now (wanted_of l.self.rec.now (blobfile_next (records l.self.rest.now)))) (actions_of (records l.act-iterator.0.now)) ≡ any (admits l.self.km0.now (wanted_of l.self.rec.now (blobfile_next (records l.self.rest.now)))) (actions_of (records l.body))
