use mathlib.Core.Path.{◌∙◌, ap}
use lib.ListN.{length}
use Rattle.text_acl.proofs.Reading.{decoded_length, acl_faulty, acl_good, acl_other}
use Rattle.text_acl.proofs.after_line.Goals as goal

pub returns-in_default : goal.returns-in_default
returns-in_default c =
    acl_faulty _ c.args.line.now c.decoded_record-rec.result c.read.result c.decoded_record-rec.ensures (ap length c.decoded_record-rec.ensures ∙ decoded_length _) c.read.ensures c.in_default.field-0 c.in_default.is

pub returns-then-is_line : goal.returns-then-is_line
returns-then-is_line c =
    acl_good _ c.args.line.now c.decoded_record-rec.result c.read.result c.decoded_record-rec.ensures (ap length c.decoded_record-rec.ensures ∙ decoded_length _) c.read.ensures c.in-Ok.next c.in-Ok.is c.is_line.result c.is_line.ensures c.if-is_line.true

pub returns-else-is_line : goal.returns-else-is_line
returns-else-is_line c =
    acl_other _ c.args.line.now c.decoded_record-rec.result c.read.result c.decoded_record-rec.ensures (ap length c.decoded_record-rec.ensures ∙ decoded_length _) c.read.ensures c.in-Ok.next c.in-Ok.is c.is_line.result c.is_line.ensures c.if-is_line.false
