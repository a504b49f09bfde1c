use Rattle.rules.specs.Basics.{ascii}
use Rattle.text_rules.specs.Decoding.{has_word}
use Rattle.text_rules.specs.OtherDecoding.{time_after}
use Rattle.std.proofs.Common.{rules}
use Rattle.text_lexer.proofs.take_time.Goals as goal

pub returns : goal.returns
unfolding ascii has_word time_after
returns c = search rules
