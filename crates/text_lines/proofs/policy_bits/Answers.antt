use Rattle.rules.specs.Basics.{ascii}
use Rattle.text_lines.proofs.Laws.{bits_held}
use borrow.Author.Rules.{rules}
use Rattle.text_lines.proofs.policy_bits.Goals as goal

pub returns : goal.returns
unfolding ascii
returns c = search (rules, bits_held)
