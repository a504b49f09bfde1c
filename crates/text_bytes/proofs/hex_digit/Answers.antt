use Rattle.text_bytes.proofs.Laws.{digit_low, digit_high}
use borrow.Author.Rules.{rules}
use Rattle.text_bytes.proofs.hex_digit.Goals as goal

pub returns-then-d-lt10 : goal.returns-then-d-lt10
returns-then-d-lt10 c = search (rules, digit_low)

pub returns : goal.returns
returns c = search (rules, digit_high)
