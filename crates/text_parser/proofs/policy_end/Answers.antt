use Rattle.rules.specs.Basics.{ascii}
use Rattle.text_rules.specs.Decoding.{has_word, after_number, number_after}
use Rattle.text_lexer.specs.Telling.{past_number, number_in}
use Rattle.text_parser.proofs.Laws.{policy_end_put}
use Rattle.text_parser.proofs.policy_end.Goals as goal

pub returns : goal.returns
unfolding ascii has_word after_number number_after past_number number_in
returns c = policy_end_put _ c.args.c _ _ _ _ _ _ _ _ _ _ _ _ c.policy_bits-bits.ensures c.take_number-protection.ensures c.append.ensures
