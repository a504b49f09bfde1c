use mathlib.Core.Path.{◌∙◌, ap}
use Rattle.acl_reader.specs.Places.{acl_state_as, reading}
use Rattle.acl_reader.proofs.Laws.{acl_bad, acl_full, acl_open, acl_sound_lem, read_stop, read_next, read_done}
use Rattle.acl_reader.proofs.state.State.read.Goals as goal

pub returns-then-not-in_place : goal.returns-then-not-in_place
returns-then-not-in_place c = let b = acl_bad _ _ _ c.in_place.ensures c.if-not-in_place.true in
    read_stop _ _ _ _ c.loop-rec.invariant _ c.loop-rec-test.true b ∙ ap (reading (acl_state_as c.args.self)) c.records-rec-items.ensures

pub returns-then-not-has_room : goal.returns-then-not-has_room
returns-then-not-has_room c = let b = acl_full _ _ _ c.in_place.ensures _ c.has_room.ensures c.if-not-in_place.false c.if-not-has_room.true in
    read_stop _ _ _ _ c.loop-rec.invariant _ c.loop-rec-test.true b ∙ ap (reading (acl_state_as c.args.self)) c.records-rec-items.ensures

pub returns-then-not-is_keyed : goal.returns-then-not-is_keyed
returns-then-not-is_keyed c = let b = acl_open _ _ _ c.in_place.ensures _ c.has_room.ensures c.if-not-in_place.false _ c.is_keyed.ensures c.if-not-has_room.false c.if-not-is_keyed.true in
    read_stop _ _ _ _ c.loop-rec.invariant _ c.loop-rec-test.true b ∙ ap (reading (acl_state_as c.args.self)) c.records-rec-items.ensures

pub loop-rec-preserved : goal.loop-rec-preserved
loop-rec-preserved c = let s = acl_sound_lem _ _ _ c.in_place.ensures _ c.has_room.ensures c.if-not-in_place.false _ c.is_keyed.ensures c.if-not-has_room.false c.if-not-is_keyed.false in
    read_next _ _ _ _ c.loop-rec.invariant _ c.loop-rec-test.true s c.after-place.ensures

pub returns : goal.returns
returns c = read_done _ _ _ _ c.loop-rec.invariant c.loop-rec-test.false ∙ ap (reading (acl_state_as c.args.self)) c.records-rec-items.ensures
