use Rattle.text_lexer.proofs.Taking.{hash_told, hash_not}
use Rattle.text_lexer.proofs.take_hash.Goals as goal

pub returns-then-word_stands : goal.returns-then-word_stands
returns-then-word_stands c = hash_told _ _ c.past.result.now _ c.args.c _ c.past.ensures c.word_stands.ensures c.if-word_stands.true c.past-then-word_stands.result.now c.past-then-word_stands.ensures _ _ _ c.put_hash-done.ensures

pub returns : goal.returns
returns c = hash_not _ _ c.past.result.now _ c.args.c _ c.past.ensures c.word_stands.ensures c.if-word_stands.false _ _ _ c.append-done.ensures
