use mathlib.Core.Path.{refl}
use Prim.Native.Nat.{◌<◌}
use lib.Count.{count_trailing_zeros}
use borrow.Author.Rules.{rules}
use Rattle.run_decision.proofs.Laws.{lowest_below}
use Rattle.run_decision.proofs.lowest.Goals as goal

pub overflow_cast-result : goal.overflow_cast-result
overflow_cast-result c = let h : count_trailing_zeros 64 c.args.set < 64 = lowest_below c.args.set (search rules) (search rules) in search rules

pub returns : goal.returns
returns c = refl
