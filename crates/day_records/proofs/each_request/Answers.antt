use mathlib.Core.Path.{refl, ◌∙◌, ap}
use Rattle.rules.specs.Basics.{each_fault}
use Rattle.rules.specs.Request.{request_record_fault}
use Rattle.record_fields.proofs.Walks.{each_stop, each_next, each_done}
use Rattle.day_records.proofs.Laws.{request_bad, request_sound}
use Rattle.day_records.proofs.each_request.Goals as goal

pub loop-rec-init : goal.loop-rec-init
loop-rec-init c = refl

pub returns-then-not-stands_alone : goal.returns-then-not-stands_alone
returns-then-not-stands_alone c =
    each_stop _ _ _ _ c.loop-rec.invariant _ c.loop-rec-test.true (request_bad _ _ c.stands_alone.ensures c.if-not-stands_alone.true)
    ∙ ap (each_fault request_record_fault) c.records-rec-items.ensures

pub loop-rec-preserved : goal.loop-rec-preserved
loop-rec-preserved c = each_next _ _ _ _ c.loop-rec.invariant c.loop-rec-test.true (request_sound _ _ c.stands_alone.ensures c.if-not-stands_alone.false)

pub returns : goal.returns
returns c = each_done _ _ _ _ c.loop-rec.invariant c.loop-rec-test.false ∙ ap (each_fault request_record_fault) c.records-rec-items.ensures
