use Prim.Native.Nat.{ℕ}
use native.Mathlib.Omega.{arith}
use mathlib.Core.Path.{◌≡◌, refl, sym, ◌∙◌, ap}
use lib.ListN.{take}
use Rattle.run_certificates.specs.Rows.{row_as}
use Rattle.replay_rows.specs.Given.{first_given}
use borrow.Author.Rules.{rules}
use Rattle.replay_rows.proofs.Decoding.{given_next, given_lent}
use Rattle.replay_rows.proofs.decoded.Goals as goal

pub loop-i-init : goal.loop-i-init
unfolding first_given
loop-i-init c = (search rules, refl)

pub loop-i-preserved : goal.loop-i-preserved
loop-i-preserved c = (search rules, search (rules, given_next))

pub returns : goal.returns
returns c =
    let e : c.loop-i.i ≡ c.lent-n.result = omega arith in
    ap (λ (k : ℕ). row_as (take k c.loop-i.room)) (sym e) ∙ c.loop-i.invariant.1 ∙ ap (first_given c.args.bytes.now) e ∙ given_lent _ _ c.lent-n.ensures
