use Rattle.text_lexer.proofs.Taking.{number_told, number_not}
use Rattle.std.proofs.Common.{rules}
use Rattle.text_lexer.proofs.take_digits.Goals as goal

pub returns-then-word_stands : goal.returns-then-word_stands
returns-then-word_stands c = number_told _ _ c.past.result.now _ c.args.c _ c.past.ensures c.word_stands.ensures c.if-word_stands.true c.past-then-word_stands.result.now c.past-then-word_stands.ensures _ _ _ _ _ _ _ c.number_at-n.ensures (search rules) c.put_number-done.ensures

pub returns : goal.returns
returns c = number_not _ _ c.past.result.now _ c.args.c _ c.past.ensures c.word_stands.ensures c.if-word_stands.false _ _ _ _ _ c.put_number-done-2.ensures
