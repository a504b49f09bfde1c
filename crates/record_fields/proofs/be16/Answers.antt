use native.Mathlib.Omega.{arith}
use Rattle.record_fields.proofs.Laws.{number_two}
use Rattle.record_fields.proofs.be16.Goals as goal

pub returns : goal.returns
returns c = number_two c.args.s.now c.args.at _ c.requires (omega arith)
