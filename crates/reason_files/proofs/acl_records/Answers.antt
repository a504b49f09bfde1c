use native.Mathlib.Omega.{arith}
use mathlib.Core.Path.{◌≡◌, ◌∙◌, ap₂}
use mathlib.Core.List.{List}
use lib.ListN.{length}
use Rattle.rules.specs.Basics.{Bytes}
use Rattle.rules.specs.Acl.{AclState}
use Rattle.acl_reader.specs.Places.{acl_state_as}
use Rattle.text_rules.specs.Kinds.{acl_kind}
use Rattle.reason_files.specs.Places.{records_place}
use Rattle.reason_files.proofs.Laws.{place_stop, place_next, place_done, record_length, acl_fault_lem, acl_sound_lem, acl_due, acl_over}
use Rattle.reason_files.proofs.acl_records.Goals as goal

pub returns-in-Err : goal.returns-in-Err
returns-in-Err c = let h = record_length _ _ _ c.records-records.ensures c.loop-index-test.true in
    place_stop acl_kind _ _ _ _ c.loop-index.invariant _ c.loop-index-test.true (acl_fault_lem _ _ h _ c.in-Err.ensures)
    ∙ ap₂ (λ (s : AclState) (rs : List Bytes). records_place acl_kind s 0 rs) c.start-state.ensures c.records-records.ensures

pub loop-index-preserved : goal.loop-index-preserved
loop-index-preserved c = let h = record_length _ _ _ c.records-records.ensures c.loop-index-test.true in
    let e = acl_sound_lem _ _ h _ c.in-Ok.ensures in
    place_next acl_kind _ _ _ _ c.loop-index.invariant _ c.loop-index-test.true e.0 e.1

pub returns-then-state : goal.returns-then-state
returns-then-state c = let h : c.loop-index.index ≡ length c.records-records.result.now = omega arith in
    place_done acl_kind _ _ _ _ c.loop-index.invariant _ h (acl_due (acl_state_as c.loop-index.state) _ c.if-state.true)
    ∙ ap₂ (λ (s : AclState) (rs : List Bytes). records_place acl_kind s 0 rs) c.start-state.ensures c.records-records.ensures

pub returns : goal.returns
returns c = let h : c.loop-index.index ≡ length c.records-records.result.now = omega arith in
    place_done acl_kind _ _ _ _ c.loop-index.invariant _ h (acl_over (acl_state_as c.loop-index.state) _ c.if-state.false)
    ∙ ap₂ (λ (s : AclState) (rs : List Bytes). records_place acl_kind s 0 rs) c.start-state.ensures c.records-records.ensures
