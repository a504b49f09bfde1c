use Rattle.rules.specs.Basics.{ascii}
use Rattle.text_lines.proofs.Laws.{delegation_held}
use borrow.Author.Rules.{rules}
use Rattle.text_lines.proofs.delegation_line.Goals as goal

pub returns : goal.returns
unfolding ascii
returns c = search (rules, delegation_held)
