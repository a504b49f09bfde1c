use mathlib.Core.Path.{ap}
use Prim.Native.Nat.{ℕ}
use lib.Dec.{eqb}
use Rattle.record_fields.proofs.Subsets.{count_ones}
use borrow.Author.Rules.{rules}
use Rattle.record_fields.proofs.one_bit.Goals as goal

pub returns : goal.returns
returns c = ap (λ (x : ℕ). eqb x 1) (count_ones 32 c.args.n (search rules))
