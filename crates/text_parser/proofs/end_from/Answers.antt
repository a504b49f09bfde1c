use Rattle.rules.specs.Basics.{ascii}
use Rattle.text_rules.specs.Decoding.{has_word, after_word}
use Rattle.text_lexer.specs.Telling.{past_word}
use Rattle.text_parser.proofs.Laws.{end_told}
use Rattle.text_parser.proofs.end_from.Goals as goal

pub returns : goal.returns
unfolding ascii has_word after_word past_word
returns c = end_told _ _ c.args.c _ _ _ _ _ _ _ c.take_word-filed.ensures c.append-gap.ensures c.take_time-done.ensures
