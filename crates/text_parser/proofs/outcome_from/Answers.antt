use mathlib.Core.Path.{refl}
use Rattle.rules.specs.Basics.{ascii}
use Rattle.text_rules.specs.Decoding.{has_word, after_word}
use Rattle.text_lexer.specs.Telling.{past_word}
use Rattle.text_parser.proofs.Laws.{outcome_put}
use Rattle.text_parser.proofs.outcome_from.Goals as goal

pub returns : goal.returns
unfolding ascii has_word after_word past_word
returns c = outcome_put _ c.args.c _ _ _ _ _ _ _ _ _ c.take_word-good.ensures refl c.put_number-last.ensures c.append.ensures
