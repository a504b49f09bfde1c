use Rattle.rules.specs.Basics.{ascii}
use Rattle.text_rules.specs.Decoding.{has_word, after_hash, after_number, hash_after, number_after}
use Rattle.text_lexer.specs.Telling.{past_hash, past_number, hash_in, number_in}
use Rattle.text_acl_parser.proofs.Laws.{file_put}
use Rattle.text_acl_parser.proofs.file_from.Goals as goal

pub returns : goal.returns
unfolding ascii has_word after_hash after_number hash_after number_after past_hash past_number hash_in number_in
returns c = file_put _ c.args.from c.args.at _ _ _ _ _ _ _ _ _ _ _ _ c.take_number-devices.ensures.0 c.take_number-devices.ensures.1 c.take_hash-template.ensures.0 c.take_hash-template.ensures.1 c.append-done.ensures c.put_header.ensures
