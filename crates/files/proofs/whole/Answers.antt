use Rattle.rules.specs.Basics.{fits}
use borrow.Author.Rules.{rules}
use Rattle.files.proofs.whole.Goals as goal

pub returns : goal.returns
unfolding fits
returns c = search rules
