use Rattle.rules.specs.Basics.{ascii}
use Rattle.text_rules.specs.Decoding.{has_word, after_number, number_after}
use Rattle.text_lexer.specs.Telling.{past_number, number_in}
use Rattle.text_acl_parser.proofs.Laws.{shares_told}
use Rattle.text_acl_parser.proofs.blob_shares.Goals as goal

pub returns : goal.returns
unfolding ascii has_word after_number number_after past_number number_in
returns c = shares_told _ c.args.c _ _ _ _ _ _ _ c.take_number-needed.ensures c.take_number-total.ensures c.take_number.ensures
