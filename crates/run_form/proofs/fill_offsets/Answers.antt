use native.Mathlib.Omega.{arith}
use Rattle.run_form.proofs.Placing.{placing_start, placing_room, placing_skip, placing_next, placing_done}
use Rattle.run_form.proofs.fill_offsets.Goals as goal
use Rattle.run_form.proofs.fill_offsets.Goals.{then-rec-eq1, else-rec-eq1}

pub loop-i-init : goal.loop-i-init
loop-i-init c = placing_start _ _ _ c.records-rec-items.ensures c.told-bodies c.requires.0 c.requires.1

pub offset_bounds-bodies-g : goal.offset_bounds-bodies-g
offset_bounds-bodies-g c = let r = placing_room _ _ _ _ _ _ c.loop-i.invariant c.loop-i-test.true c.if-rec-eq1.true in omega arith

pub bounds-bodies-g : goal.bounds-bodies-g
bounds-bodies-g c = placing_room _ _ _ _ _ _ c.loop-i.invariant c.loop-i-test.true c.if-rec-eq1.true

pub overflow_add-g : goal.overflow_add-g
overflow_add-g c = let r = placing_room _ _ _ _ _ _ c.loop-i.invariant c.loop-i-test.true c.if-rec-eq1.true in omega arith

pub loop-i-preserved : goal.loop-i-preserved
loop-i-preserved c =
    elim c.if-rec-eq1.branch [
      | then-rec-eq1 w ↦ rw (w.bodies-is, w.g-is) (placing_next _ _ _ _ _ _ c.loop-i.invariant c.loop-i-test.true w.if-rec-eq1.true)
      | else-rec-eq1 w ↦ rw (w.bodies-is, w.g-is) (placing_skip _ _ _ _ _ _ c.loop-i.invariant c.loop-i-test.true w.if-rec-eq1.false)
    ]

pub returns : goal.returns
returns c = placing_done _ _ _ _ _ _ c.loop-i.invariant c.loop-i-test.false
