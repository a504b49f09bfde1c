use Rattle.gate_admission.proofs.Laws.{use_other, use_high, use_bit}
use borrow.Author.Rules.{rules}
use Rattle.gate_admission.proofs.admits_use.Goals as goal

pub returns-then-act-ne-OP_PERMISSIONS : goal.returns-then-act-ne-OP_PERMISSIONS
returns-then-act-ne-OP_PERMISSIONS c = λ f. search (rules, use_other)

pub returns-then-p-ge16 : goal.returns-then-p-ge16
returns-then-p-ge16 c = λ f. use_high _ _ f c.be16-bits.result c.if-act-ne-OP_PERMISSIONS.false c.be16-bits.ensures c.if-p-ge16.true (search rules)

pub returns : goal.returns
returns c = λ f. search (rules, use_bit)
