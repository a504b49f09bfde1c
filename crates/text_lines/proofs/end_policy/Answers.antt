use Rattle.rules.specs.Basics.{ascii}
use Rattle.text_lines.proofs.Laws.{protection_held}
use borrow.Author.Rules.{rules}
use Rattle.text_lines.proofs.end_policy.Goals as goal

pub returns : goal.returns
unfolding ascii
returns c = search (rules, protection_held)
