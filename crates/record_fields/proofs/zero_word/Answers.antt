use Rattle.record_fields.proofs.Words.{word_zero}
use borrow.Author.Rules.{rules}
use Rattle.record_fields.proofs.zero_word.Goals as goal

pub returns : goal.returns
returns c = search (rules, word_zero)
