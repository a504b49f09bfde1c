use native.Mathlib.Omega.{arith}
use Rattle.rules.specs.Basics.{ascii}
use Rattle.text_rules.specs.Decoding.{has_word, after_number, number_after}
use Rattle.text_lexer.specs.Telling.{past_number, number_in}
use Rattle.text_acl_parser.proofs.Laws.{limit_put}
use Rattle.text_acl_parser.proofs.limit_from.Goals as goal

pub limit_sort-requires : goal.limit_sort-requires
limit_sort-requires c = omega (arith, c.take_number-counter.ensures.0.few, c.limit_maximum-maximum.ensures.1)

pub returns : goal.returns
unfolding ascii has_word after_number number_after past_number number_in
returns c = limit_put _ c.args.from c.args.at _ c.limit_maximum-maximum.result _ _ _ _ _ _ _ _ _ _ _ c.take_number-counter.ensures.0 c.take_number-counter.ensures.1 c.append-gap.ensures c.limit_maximum-maximum.ensures.0 c.limit_maximum-maximum.ensures.2 c.append-done.ensures c.limit_sort.ensures c.append.ensures
