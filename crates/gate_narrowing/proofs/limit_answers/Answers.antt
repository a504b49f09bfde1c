use Rattle.gate_narrowing.proofs.Laws.{answers_is}
use Rattle.gate_narrowing.proofs.limit_answers.Goals as goal

pub returns : goal.returns
returns c = answers_is c.args.old.now c.args.new.now _ _ c.be32.ensures c.be32-2.ensures
