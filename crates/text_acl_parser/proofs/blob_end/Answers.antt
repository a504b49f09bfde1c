use Rattle.rules.specs.Basics.{ascii}
use Rattle.text_rules.specs.Decoding.{has_word, after_word}
use Rattle.text_lexer.specs.Telling.{past_word}
use Rattle.text_acl_parser.proofs.Laws.{end_told}
use Rattle.text_acl_parser.proofs.blob_end.Goals as goal

pub returns : goal.returns
unfolding ascii has_word after_word past_word
returns c = end_told _ _ _ _ c.take_word-null.ensures c.take_word.ensures
