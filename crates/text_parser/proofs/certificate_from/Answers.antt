use Rattle.rules.specs.Basics.{ascii}
use Rattle.text_rules.specs.Decoding.{has_word, number_after}
use Rattle.text_lexer.specs.Telling.{number_in}
use Rattle.text_parser.proofs.Laws.{certificate_put}
use Rattle.text_parser.proofs.certificate_from.Goals as goal

pub returns : goal.returns
unfolding ascii has_word number_after number_in
returns c = certificate_put _ c.args.from _ _ _ _ _ _ _ _ _ _ _ _ _ _ _ c.put_header-headed.ensures c.hash_here-key.ensures c.take_number-named.ensures c.append.ensures
