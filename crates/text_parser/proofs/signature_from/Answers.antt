use Rattle.rules.specs.Basics.{ascii}
use Rattle.text_parser.proofs.Laws.{signature_put}
use Rattle.text_parser.proofs.signature_from.Goals as goal

pub returns : goal.returns
unfolding ascii
returns c = signature_put _ c.args.from _ _ _ _ _ _ _ _ _ c.put_header-headed.ensures c.take_name-named.ensures c.outcome_from.ensures
