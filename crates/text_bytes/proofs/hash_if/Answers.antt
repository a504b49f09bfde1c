use Rattle.text_bytes.proofs.Words.{held_given, held_not}
use borrow.Author.Rules.{rules}
use Rattle.text_bytes.proofs.hash_if.Goals as goal

pub returns-then-given : goal.returns-then-given
returns-then-given c = search (rules, held_given)

pub returns-else-given : goal.returns-else-given
returns-else-given c = search (rules, held_not)
