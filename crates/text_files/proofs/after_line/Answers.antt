use Rattle.text_files.proofs.Laws.{faulty_line, good_line, other_line}
use Rattle.text_files.proofs.after_line.Goals as goal

pub returns-in_default : goal.returns-in_default
returns-in_default c = faulty_line _ c.args.line.now c.record_of-rec.result c.next.result c.record_of-rec.ensures c.next.ensures c.in_default.field-0 c.in_default.is

pub returns-then-is_line : goal.returns-then-is_line
returns-then-is_line c = good_line _ c.args.line.now c.record_of-rec.result c.next.result c.record_of-rec.ensures c.next.ensures c.in-Ok.next c.in-Ok.is c.is_line.result c.is_line.ensures c.if-is_line.true

pub returns-else-is_line : goal.returns-else-is_line
returns-else-is_line c = other_line _ c.args.line.now c.record_of-rec.result c.next.result c.record_of-rec.ensures c.next.ensures c.in-Ok.next c.in-Ok.is c.is_line.result c.is_line.ensures c.if-is_line.false
