use Rattle.text_bytes.proofs.Words.{held_word, held_not}
use borrow.Author.Rules.{rules}
use Rattle.text_bytes.proofs.word_if.Goals as goal

pub returns-then-given : goal.returns-then-given
returns-then-given c = search (rules, held_word)

pub returns : goal.returns
returns c = search (rules, held_not)
