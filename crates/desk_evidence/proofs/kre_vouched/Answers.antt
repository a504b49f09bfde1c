use Rattle.rules.specs.Desk.{kre_vouched}
use Rattle.rules.proofs.Choices.{and_is}
use borrow.Author.Rules.{rules}
use Rattle.desk_evidence.proofs.kre_vouched.Goals as goal

pub returns : goal.returns
unfolding kre_vouched
returns c = search (rules, and_is)
