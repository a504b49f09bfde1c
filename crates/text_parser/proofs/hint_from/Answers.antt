use Rattle.rules.specs.Basics.{ascii}
use Rattle.text_rules.specs.Decoding.{has_word, after_number, number_after}
use Rattle.text_lexer.specs.Telling.{past_number, number_in}
use Rattle.text_parser.proofs.Laws.{hint_put}
use Rattle.text_parser.proofs.hint_from.Goals as goal

pub returns : goal.returns
unfolding ascii has_word after_number number_after past_number number_in
returns c = hint_put _ c.args.from _ _ _ _ _ _ _ _ _ _ _ c.put_header-headed.ensures c.take_number-group.ensures c.actions_from.ensures
