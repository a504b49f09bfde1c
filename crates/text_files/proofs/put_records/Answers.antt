use Rattle.text_rules.specs.OtherDecoding.{record_of}
use Rattle.text_acl.proofs.Reading.{records_filled, record_room, record_filled, records_all}
use Rattle.text_files.proofs.Laws.{record_length}
use borrow.Author.Rules.{rules}
use Rattle.text_files.proofs.put_records.Goals as goal

pub loop-at-init : goal.loop-at-init
loop-at-init c = (search rules, search rules, search (rules, records_filled))

pub decode_record-end-requires : goal.decode_record-end-requires
decode_record-end-requires c = search (rules, record_room record_of, record_length)

pub loop-at-preserved : goal.loop-at-preserved
loop-at-preserved c = (search rules, search rules, search (rules, record_filled))

pub returns : goal.returns
returns c = search (rules, records_all)
