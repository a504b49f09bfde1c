use Rattle.rules.specs.Basics.{ascii}
use Rattle.text_rules.specs.Decoding.{has_word, after_word, after_hash, hash_after}
use Rattle.text_lexer.specs.Telling.{past_word, past_hash, hash_in}
use Rattle.text_acl_parser.proofs.Laws.{keys_told}
use Rattle.text_acl_parser.proofs.blob_keys.Goals as goal

pub returns : goal.returns
unfolding ascii has_word after_word after_hash hash_after past_word past_hash hash_in
returns c = keys_told _ c.args.c _ _ _ _ _ _ _ c.take_word-only.ensures c.take_word-other.ensures c.take_hash-key.ensures c.take_hash.ensures
