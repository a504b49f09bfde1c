use Rattle.rules.specs.Basics.{ascii}
use Rattle.text_parser.proofs.Laws.{fact_put}
use Rattle.text_parser.proofs.fact_from.Goals as goal

pub returns : goal.returns
unfolding ascii
returns c = fact_put _ c.args.from _ _ _ _ _ _ _ _ _ _ _ _ _ _ c.put_header-headed.ensures c.take_name-named.ensures c.append-gap.ensures c.hash_here-content.ensures c.append.ensures
