use Rattle.rules.specs.Basics.{ascii}
use Rattle.text_rules.specs.Decoding.{has_word, after_hash, after_number, hash_after, number_after}
use Rattle.text_lexer.specs.Telling.{past_hash, past_number, hash_in, number_in}
use Rattle.text_parser.proofs.Laws.{recovery_put}
use Rattle.text_parser.proofs.recovery_from.Goals as goal

pub returns : goal.returns
unfolding ascii has_word after_hash after_number hash_after number_after past_hash past_number hash_in number_in
returns c = recovery_put _ c.args.from c.args.at _ _ c.end_from-last.result _ _ _ _ _ _ _ _ c.take_hash-key.ensures c.take_number-named.ensures c.end_from-last.ensures c.put_header.ensures
