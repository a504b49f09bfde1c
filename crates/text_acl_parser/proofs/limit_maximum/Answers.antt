use Rattle.rules.specs.Basics.{ascii}
use Rattle.text_rules.specs.Decoding.{has_word, number_after}
use Rattle.text_lexer.specs.Telling.{number_in}
use Rattle.text_acl_parser.proofs.Laws.{maximum_timed, maximum_used}
use Rattle.text_acl_parser.proofs.limit_maximum.Goals as goal

pub returns-then-word_stands : goal.returns-then-word_stands
unfolding ascii has_word number_after number_in
returns-then-word_stands c = maximum_timed _ c.past.result.now c.args.c _ c.past.ensures c.word_stands.ensures _ _ _ _ _ c.if-word_stands.true c.take_number.ensures

pub returns : goal.returns
unfolding ascii has_word number_after number_in
returns c = maximum_used _ c.past.result.now c.args.c _ c.past.ensures c.word_stands.ensures _ _ _ _ _ c.if-word_stands.false c.take_number-2.ensures
