use Rattle.rules.specs.Basics.{ascii}
use Rattle.text_rules.specs.Decoding.{has_word, after_number, number_after}
use Rattle.text_lexer.specs.Telling.{past_number, number_in}
use Rattle.text_parser.proofs.Laws.{policy_put}
use Rattle.text_parser.proofs.policy_from.Goals as goal

pub returns : goal.returns
unfolding ascii has_word after_number number_after past_number number_in
returns c = policy_put _ c.args.from _ _ _ _ _ _ _ _ _ _ _ _ c.put_header-headed.ensures c.take_number-suite.ensures c.take_number-approach.ensures c.policy_end.ensures
