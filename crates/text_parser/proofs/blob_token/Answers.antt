use mathlib.Core.Path.{refl}
use Rattle.rules.specs.Basics.{ascii}
use Rattle.text_rules.specs.Decoding.{has_word, after_word, after_hash, hash_after}
use Rattle.text_lexer.specs.Telling.{past_word, past_hash, hash_in}
use Rattle.text_parser.proofs.Laws.{token_told}
use Rattle.text_parser.proofs.blob_token.Goals as goal

pub returns : goal.returns
unfolding ascii has_word after_word after_hash hash_after past_word past_hash hash_in
returns c = token_told _ c.args.c _ _ _ _ _ _ _ _ _ c.take_hash-token.ensures c.take_word-soft.ensures refl c.put_number-end.ensures c.blob_shares.ensures
