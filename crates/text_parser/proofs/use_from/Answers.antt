use Rattle.rules.specs.Basics.{ascii}
use Rattle.text_parser.proofs.Laws.{use_put}
use Rattle.text_parser.proofs.use_from.Goals as goal

pub returns : goal.returns
unfolding ascii
returns c = use_put _ c.args.from _ _ _ _ _ _ _ _ _ _ _ c.put_header-headed.ensures c.take_name-named.ensures c.append-gap.ensures c.take_time.ensures
