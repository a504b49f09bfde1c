use mathlib.Core.Path.{ap}
use mathlib.Core.Bool.{Bool, ◌&&◌}
use lib.Dec.{eqb}
use Rattle.rules.specs.Basics.{kind, byte}
use Rattle.rules.specs.Request.{use_of}
use Rattle.request_reader.proofs.use_record.Goals as goal

pub returns : goal.returns
unfolding use_of
returns c = let a = c.args in
    ap (λ (b : Bool). eqb (kind a.rec.now) 6 && b && eqb (byte 4 a.rec.now) a.p) c.use_request.ensures
