use mathlib.Core.Path.{◌∙◌}
use Rattle.gate_certification.proofs.Laws.{holds_high, holds_is}
use borrow.Author.Rules.{rules}
use Rattle.gate_certification.proofs.holds_bit.Goals as goal

pub returns-then-p-lt16 : goal.returns-then-p-lt16
returns-then-p-lt16 c = c.bit_of.ensures ∙ holds_is c.args.p _ c.args.del.now c.be16-mask.ensures _ c.from.ensures

pub returns-else-p-lt16 : goal.returns-else-p-lt16
returns-else-p-lt16 c = search (rules, holds_high)
