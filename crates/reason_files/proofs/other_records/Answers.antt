use Prim.Native.Nat.{ℕ}
use native.Mathlib.Omega.{arith}
use mathlib.Core.Option.{Option}
use mathlib.Core.Path.{◌≡◌, ◌∙◌, ap}
use lib.ListN.{length}
use Rattle.text_states.specs.States.{state_as, kind_from}
use Rattle.reason_files.specs.Places.{records_place, end_place}
use Rattle.reason_files.proofs.Laws.{place_stop, place_next, place_done, other_fault, other_sound}
use Rattle.reason_files.proofs.other_records.Goals as goal

pub returns-in-Err : goal.returns-in-Err
returns-in-Err c = let k = kind_from (state_as c.args.start) in
    place_stop k _ _ _ _ c.loop-index.invariant _ c.loop-index-test.true (other_fault _ _ _ c.in-Err.ensures) ∙ ap (records_place k (state_as c.args.start) 0) c.records-records.ensures

pub loop-index-preserved : goal.loop-index-preserved
loop-index-preserved c = let e = other_sound _ _ _ c.in-Ok.ensures in place_next (kind_from (state_as c.args.start)) _ _ _ _ c.loop-index.invariant _ c.loop-index-test.true e.0 e.1

pub returns-in-Ok-end : goal.returns-in-Ok-end
returns-in-Ok-end c = let k = kind_from (state_as c.args.start) in
    let h : c.loop-index.index ≡ length c.records-records.result.now = omega arith in
    place_done k _ _ _ _ c.loop-index.invariant _ h (ap (λ (o : Option ℕ). end_place o (length c.records-records.result.now)) c.in-Ok-end.ensures)
    ∙ ap (records_place k (state_as c.args.start) 0) c.records-records.ensures

pub returns-in-Err-end : goal.returns-in-Err-end
returns-in-Err-end c = let k = kind_from (state_as c.args.start) in
    let h : c.loop-index.index ≡ length c.records-records.result.now = omega arith in
    place_done k _ _ _ _ c.loop-index.invariant _ h (ap (λ (o : Option ℕ). end_place o (length c.records-records.result.now)) c.in-Err-end.ensures)
    ∙ ap (records_place k (state_as c.args.start) 0) c.records-records.ensures
