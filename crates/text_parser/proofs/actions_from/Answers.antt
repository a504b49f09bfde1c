use Rattle.rules.specs.Basics.{ascii}
use Rattle.text_rules.specs.Decoding.{has_word, after_word}
use Rattle.text_lexer.specs.Telling.{past_word}
use Rattle.text_parser.proofs.Laws.{actions_put}
use Rattle.text_parser.proofs.actions_from.Goals as goal

pub returns : goal.returns
unfolding ascii has_word after_word past_word
returns c = actions_put _ c.args.c _ _ _ _ _ _ _ _ _ _ _ c.append-gap.ensures c.take_word-actions.ensures c.bytes_here-last.ensures c.append.ensures
