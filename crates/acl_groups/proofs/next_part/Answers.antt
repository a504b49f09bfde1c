use native.Mathlib.Omega.{arith}
use mathlib.Core.Path.{◌∙◌, ap}
use Prim.Native.Nat.{ℕ, ◌+◌, ◌*◌}
use Rattle.acl_groups.proofs.Laws.{first_offset, part_found, passed_within}
use Rattle.acl_groups.proofs.next_part.Goals as goal

pub returns : goal.returns
returns c =
    part_found _ _ _ _ c.requires c.records.ensures (ap (λ (n : ℕ). c.args.at + n * 64) c.passed_count.ensures ∙ first_offset c.records.result.now c.args.at)

pub overflow_mul-result : goal.overflow_mul-result
overflow_mul-result c = let h = passed_within _ _ _ _ c.requires c.records.ensures c.passed_count.ensures in omega arith

pub overflow_add-result : goal.overflow_add-result
overflow_add-result c = let h = passed_within _ _ _ _ c.requires c.records.ensures c.passed_count.ensures in omega arith
