use mathlib.Core.Path.{refl, ◌∙◌, ap}
use Rattle.rules.specs.Request.{hints_fault}
use Rattle.record_fields.proofs.Walks.{each_stop, each_next, each_done}
use Rattle.request_reader.proofs.Laws.{hint_bad, hint_sound}
use Rattle.request_reader.proofs.hint_records.Goals as goal

pub loop-rec-init : goal.loop-rec-init
unfolding hints_fault
loop-rec-init c = refl

pub returns-then-not-hint_record : goal.returns-then-not-hint_record
returns-then-not-hint_record c = each_stop _ _ _ _ c.loop-rec.invariant _ c.loop-rec-test.true (hint_bad _ _ c.hint_record.ensures c.if-not-hint_record.true) ∙ ap hints_fault c.records-rec-items.ensures

pub loop-rec-preserved : goal.loop-rec-preserved
loop-rec-preserved c = each_next _ _ _ _ c.loop-rec.invariant c.loop-rec-test.true (hint_sound _ _ c.hint_record.ensures c.if-not-hint_record.false)

pub returns : goal.returns
returns c = each_done _ _ _ _ c.loop-rec.invariant c.loop-rec-test.false ∙ ap hints_fault c.records-rec-items.ensures
