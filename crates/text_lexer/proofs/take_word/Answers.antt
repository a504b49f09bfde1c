use Rattle.text_lexer.proofs.Taking.{word_told, word_not}
use Rattle.text_lexer.proofs.take_word.Goals as goal

pub returns-then-word_stands : goal.returns-then-word_stands
returns-then-word_stands c = word_told _ _ c.past.result.now _ c.args.c _ c.past.ensures c.word_stands.ensures c.if-word_stands.true

pub returns : goal.returns
returns c = word_not _ _ c.past.result.now _ c.args.c _ c.past.ensures c.word_stands.ensures c.if-word_stands.false
