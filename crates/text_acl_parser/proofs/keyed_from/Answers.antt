use Rattle.rules.specs.Basics.{ascii}
use Rattle.text_acl_parser.proofs.Laws.{keyed_put}
use Rattle.text_acl_parser.proofs.keyed_from.Goals as goal

pub returns : goal.returns
unfolding ascii
returns c = keyed_put _ _ _ _ _ c.args.from c.args.at _ _ _ _ _ _ _ _ _ _ _ _ _ _ c.take_hash-keyed.ensures.0 c.take_hash-keyed.ensures.1 c.take_number-named.ensures.0 c.take_number-named.ensures.1 c.take_word-last.ensures c.append-done.ensures c.put_header.ensures
