use Rattle.text_rules.specs.Kinds.{acl_kind}
use Rattle.text_rules.proofs.Records.{decoded_record}
use Rattle.text_acl.proofs.Reading.{read_short, read_room, read_whole}
use borrow.Author.Rules.{rules}
use Rattle.text_acl.proofs.read_sound.Goals as goal

pub returns-then-buffer-count : goal.returns-then-buffer-count
returns-then-buffer-count c = search (rules, read_short acl_kind decoded_record)

pub put_records-requires : goal.put_records-requires
put_records-requires c = search (rules, read_room acl_kind decoded_record)

pub returns : goal.returns
returns c = search (rules, read_whole acl_kind decoded_record)
