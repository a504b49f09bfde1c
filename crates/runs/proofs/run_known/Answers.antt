use borrow.Author.Rules.{rules}
use Rattle.runs.proofs.Laws.{ran_is}
use Rattle.runs.proofs.run_known.Goals as goal

pub returns : goal.returns
returns c = search (rules, ran_is)
