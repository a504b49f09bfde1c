use Rattle.text_acl.proofs.Reading.{decoded_length, records_filled, record_room, record_filled, records_all}
use borrow.Author.Rules.{rules}
use Rattle.text_acl.proofs.put_records.Goals as goal

pub loop-at-init : goal.loop-at-init
loop-at-init c = (search rules, search rules, search (rules, records_filled))

pub decode-end-requires : goal.decode-end-requires
decode-end-requires c = search (rules, record_room, decoded_length)

pub loop-at-preserved : goal.loop-at-preserved
loop-at-preserved c = (search rules, search rules, search (rules, record_filled))

pub returns : goal.returns
returns c = search (rules, records_all)
