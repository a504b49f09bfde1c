use Rattle.text_bytes.proofs.Words.{number_inside, held_number}
use borrow.Author.Rules.{rules}
use Rattle.text_bytes.proofs.word_and_number.Goals as goal

pub append_decimal-requires : goal.append_decimal-requires
append_decimal-requires c = search (rules, number_inside)

pub returns : goal.returns
returns c = search (rules, held_number)
