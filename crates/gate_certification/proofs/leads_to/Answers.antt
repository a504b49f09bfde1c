use Rattle.gate_certification.specs.Levels.{leads_to}
use borrow.Author.Rules.{rules}
use Rattle.gate_certification.proofs.leads_to.Goals as goal

pub returns : goal.returns
unfolding leads_to
returns c = search rules
