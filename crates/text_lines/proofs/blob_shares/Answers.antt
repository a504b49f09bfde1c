use Rattle.rules.specs.Basics.{ascii}
use Rattle.text_lines.proofs.Laws.{shares_held}
use borrow.Author.Rules.{rules}
use Rattle.text_lines.proofs.blob_shares.Goals as goal

pub returns : goal.returns
unfolding ascii
returns c = search (rules, shares_held)
