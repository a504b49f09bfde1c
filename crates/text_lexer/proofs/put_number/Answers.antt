use Rattle.text_lexer.proofs.Laws.{number_put}
use Rattle.text_lexer.proofs.put_number.Goals as goal

pub returns : goal.returns
returns c = number_put c.args.n c.args.width c.args.at _ _ _ _ c.requires.0 c.to_be_bytes-bytes.ensures c.append.ensures
