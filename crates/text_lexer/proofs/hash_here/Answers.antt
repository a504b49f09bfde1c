use Rattle.text_lexer.proofs.Taking.{hash_here_lem}
use Rattle.text_lexer.proofs.hash_here.Goals as goal

pub returns : goal.returns
returns c = hash_here_lem _ c.past.result.now c.args.c _ _ _ c.past.ensures c.put_hash-done.ensures
