use native.Mathlib.Omega.{arith}
use Rattle.record_fields.proofs.Laws.{number_four}
use Rattle.record_fields.proofs.be32.Goals as goal

pub returns : goal.returns
returns c = number_four c.args.s.now c.args.at _ c.requires (omega (arith, c.from_be_bytes.ensures))
