use Rattle.text_lexer.specs.Telling.{past_number, number_in}
use Rattle.std.proofs.Common.{rules}
use Rattle.text_lexer.proofs.take_number.Goals as goal

pub returns : goal.returns
unfolding past_number number_in
returns c = search rules
