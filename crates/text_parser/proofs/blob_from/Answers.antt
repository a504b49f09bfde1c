use Rattle.rules.specs.Basics.{ascii}
use Rattle.text_rules.specs.Decoding.{has_word, after_hash, hash_after}
use Rattle.text_lexer.specs.Telling.{past_hash, hash_in}
use Rattle.text_parser.proofs.Laws.{blob_put}
use Rattle.text_parser.proofs.blob_from.Goals as goal

pub returns : goal.returns
unfolding ascii has_word after_hash hash_after past_hash hash_in
returns c = blob_put _ c.args.from c.args.at _ _ c.end_from-last.result _ _ _ _ _ _ _ c.take_hash-key.ensures c.blob_token-token.ensures c.end_from-last.ensures c.put_header.ensures
