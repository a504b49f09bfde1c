use native.Mathlib.Omega.{arith}
use mathlib.Core.Path.{◌∙◌}
use Rattle.gate_counts.proofs.Laws.{carry_past, carry_next, carry_done}
use Rattle.gate_counts.proofs.carry_all.Goals as goal
use Rattle.gate_counts.proofs.carry_all.Goals.{then-i-lt-GROUPS, else-i-lt-GROUPS}

pub loop-i-preserved : goal.loop-i-preserved
loop-i-preserved c =
    carry_next _ _ _ _ _ c.loop-i.invariant _ c.loop-i-test.true (elim c.if-i-lt-GROUPS.branch [
      | then-i-lt-GROUPS w ↦ rw (w.table-is, w.count_at.ensures, w.from.ensures)
      | else-i-lt-GROUPS w ↦
          let l = rw w.table-is at c.if-i-lt-GROUPS.array_long in
          w.table-is ∙ carry_past c.loop-i.table _ _ (omega (arith, l, w.if-i-lt-GROUPS.false))
    ])

pub returns : goal.returns
returns c = rw (← c.records-hint-items.ensures) (carry_done _ _ _ _ _ c.loop-i.invariant c.loop-i-test.false)
