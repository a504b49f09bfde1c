use mathlib.Core.Path.{refl}
use Rattle.rules.specs.Basics.{ascii}
use Rattle.text_rules.specs.Decoding.{has_word, after_word}
use Rattle.text_lexer.specs.Telling.{past_word}
use Rattle.text_acl_parser.proofs.Laws.{token_told}
use Rattle.text_acl_parser.proofs.blob_token.Goals as goal

pub returns : goal.returns
unfolding ascii has_word after_word past_word
returns c = token_told _ _ c.args.c _ _ _ _ _ _ _ _ _ _ c.take_word-begun.ensures c.take_word-soft.ensures refl c.put_number-end.ensures c.blob_shares-shares.ensures c.blob_end.ensures c.requires.1
