use Rattle.record_fields.proofs.Words.{word_same}
use borrow.Author.Rules.{rules}
use Rattle.record_fields.proofs.same_word.Goals as goal

pub returns : goal.returns
returns c = search (rules, word_same)
