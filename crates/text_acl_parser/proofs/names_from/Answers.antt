use Rattle.text_acl_parser.proofs.Laws.{bits_none, bits_double, bits_room, bits_word, bits_all}
use borrow.Author.Rules.{rules}
use Rattle.text_acl_parser.proofs.names_from.Goals as goal

pub loop-i-init : goal.loop-i-init
loop-i-init c = (search rules, search rules, search rules, search (rules, bits_none))

pub take_word-c-requires : goal.take_word-c-requires
take_word-c-requires c = (search rules, search rules, search (rules, bits_room))

pub loop-i-preserved : goal.loop-i-preserved
loop-i-preserved c = (search rules, search rules, search (rules, bits_double), search (rules, bits_word))

pub returns : goal.returns
returns c = search (rules, bits_all)
