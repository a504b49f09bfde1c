use Rattle.text_lexer.proofs.Taking.{byte_here}
use Rattle.text_lexer.proofs.byte_here.Goals as goal

pub returns : goal.returns
returns c = byte_here _ c.past.result.now c.args.c _ _ _ _ _ c.past.ensures c.number_at-n.ensures c.put_number-done.ensures
