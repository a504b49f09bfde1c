use Rattle.text_bytes.proofs.Words.{skipped_none, skipped_inside, skipped_next, skipped_room, skipped_put}
use borrow.Author.Rules.{rules}
use Rattle.text_bytes.proofs.append_name.Goals as goal

pub loop-init : goal.loop-init
loop-init c = search (rules, skipped_none)

pub word_end-from-requires : goal.word_end-from-requires
word_end-from-requires c = search (rules, skipped_inside)

pub loop-preserved : goal.loop-preserved
loop-preserved c = (search rules, search (rules, skipped_next))

pub word_end-end-requires : goal.word_end-end-requires
word_end-end-requires c = search (rules, skipped_inside)

pub append-requires : goal.append-requires
append-requires c = search (rules, skipped_room)

pub returns : goal.returns
returns c = search (rules, skipped_put)
