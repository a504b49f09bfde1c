use native.Mathlib.Omega.{arith}
use mathlib.Core.Path.{◌≡◌}
use Rattle.rules.specs.Basics.{kind}
use borrow.Author.Rules.{rules}
use Rattle.gate_admission.proofs.Laws.{recovery_low, recovery_is}
use Rattle.gate_admission.proofs.BlobRequest.recovery_admitted.Goals as goal
use Rattle.gate_admission.proofs.BlobRequest.recovery_admitted.Goals.{in_default-via-then-act-lt3, in_default-via-else-act-lt3+else-this-lt5}

pub returns-in-3 : goal.returns-in-3
returns-in-3 c = search (rules, recovery_low)

pub returns-in_default : goal.returns-in_default
returns-in_default c =
    let n : kind c.args.act.now ≡ 3 → ⊥ = elim c.in_default.branch [ in_default-via-then-act-lt3 w ↦ λ e. omega arith | in_default-via-else-act-lt3+else-this-lt5 w ↦ λ e. omega arith ] in
    let m : kind c.args.act.now ≡ 4 → ⊥ = elim c.in_default.branch [ in_default-via-then-act-lt3 w ↦ λ e. omega arith | in_default-via-else-act-lt3+else-this-lt5 w ↦ λ e. omega arith ] in
    search (rules, recovery_is)
