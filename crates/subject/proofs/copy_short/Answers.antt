use native.Mathlib.Omega.{arith}
use mathlib.Core.Path.{refl}
use Rattle.subject.proofs.Laws.{copied_zero, copied_first, copied_last, copied_byte, copied_done}
use borrow.Author.Rules.{rules}
use Rattle.subject.proofs.copy_short.Goals as goal

pub returns-then-end-ge8 : goal.returns-then-end-ge8
returns-then-end-ge8 c = copied_last _ _ _ _ 8 _ _ (omega arith) (omega arith) refl (search rules) (copied_first _ _ _ 8 (omega arith) (search rules) c.copy_eight.ensures) c.copy_eight-then-end-ge8.ensures

pub loop-i-init : goal.loop-i-init
loop-i-init c = search (rules, copied_zero)

pub loop-i-preserved : goal.loop-i-preserved
loop-i-preserved c = search (rules, copied_byte)

pub returns : goal.returns
returns c = search (rules, copied_done)
