use Rattle.rules.specs.Desk.{km_vouched}
use Rattle.desk_evidence.proofs.Laws.{vouched_is}
use borrow.Author.Rules.{rules}
use Rattle.desk_evidence.proofs.km_vouched.Goals as goal

pub returns : goal.returns
unfolding km_vouched
returns c = search (rules, vouched_is)
