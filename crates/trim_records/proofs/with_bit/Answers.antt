use native.Mathlib.Omega.{arith}
use Rattle.trim_records.proofs.Laws.{bit_small}
use borrow.Author.Rules.{rules}
use Rattle.trim_records.proofs.with_bit.Goals as goal

pub overflow_add-result : goal.overflow_add-result
overflow_add-result c = let h = bit_small c.args.b (search rules) in omega arith

pub returns : goal.returns
returns c = let h = bit_small c.args.b (search rules) in omega arith
