use Rattle.rules.specs.Basics.{ascii}
use Rattle.text_rules.specs.Decoding.{has_word, after_hash, hash_after}
use Rattle.text_lexer.specs.Telling.{past_hash, hash_in}
use Rattle.text_parser.proofs.Laws.{delegation_put}
use Rattle.text_parser.proofs.delegation_from.Goals as goal

pub returns : goal.returns
unfolding ascii has_word after_hash hash_after past_hash hash_in
returns c = delegation_put _ c.args.from _ _ _ _ _ _ _ _ _ _ _ _ c.put_header-headed.ensures c.take_hash-source.ensures c.take_hash-target.ensures c.bits_from.ensures
