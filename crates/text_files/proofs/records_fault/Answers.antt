use mathlib.Core.Path.{◌∙◌, ap}
use Rattle.files.proofs.Passed.{fault_passed}
use Rattle.text_states.specs.States.{state_as}
use Rattle.text_files.proofs.Laws.{fault_after, records_stop, records_next, records_end}
use Rattle.text_files.proofs.records_fault.Goals as goal

pub loop-rec-preserved : goal.loop-rec-preserved
loop-rec-preserved c = records_next _ _ (state_as c.loop-rec.state) _ c.loop-rec.invariant c.next.result c.loop-rec-test.true c.next.ensures c.in_ok-state.state c.in_ok-state.was

pub returns-in_err-state : goal.returns-in_err-state
returns-in_err-state c =
    fault_passed _ _ c.from_residual.ensures
    ∙ records_stop _ _ (state_as c.loop-rec.state) _ c.loop-rec.invariant c.next.result c.loop-rec-test.true c.next.ensures _ c.in_err-state.was
    ∙ ap (fault_after (state_as c.args.start)) c.records-rec-items.ensures

pub returns : goal.returns
returns c = c.end.ensures ∙ records_end _ _ (state_as c.loop-rec.state) _ c.loop-rec.invariant c.loop-rec-test.false ∙ ap (fault_after (state_as c.args.start)) c.records-rec-items.ensures
