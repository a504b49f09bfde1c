use Rattle.text_lexer.proofs.Taking.{name_told}
use Rattle.text_lexer.proofs.take_name.Goals as goal

pub returns : goal.returns
returns c = name_told _ c.past.result.now c.args.c _ _ _ _ _ _ _ c.past.ensures c.name_at-name.ensures c.put_number-done.ensures
