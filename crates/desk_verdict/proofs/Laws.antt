-- The lengths of the names of the steps, and the lines by their parts.
use Prim.Native.Nat.{ℕ, ◌≤◌}
use native.Mathlib.Omega.{arith}
use mathlib.Core.Path.{◌≡◌, refl}
use mathlib.Core.List.{◌++◌}
use mathlib.Core.Bool.{Bool}
use lib.ListN.{length}
use borrow.Author.Tests.{eq-eqb, ne_eqb}
use Rattle.rules.specs.Basics.{ascii}
use Rattle.rules.specs.Day.{decimal}
use Rattle.rules.specs.Desk.{Step, WV1, MSCV1, MSCV2, MSCV3, MSCV4, MSCV5, WBCV1, WBCV2, WBCV3, KGCV1, KGCV2, ACLV3, WB1, WB2, WB3, WB6, RB1, RB2, RB3, KV3, CSRL1}
use Rattle.desk.specs.Replies.{Named}
use Rattle.text_rules.specs.Words.{spaced}
use Rattle.desk_verdict.specs.Lines.{step_text, recoverable_text, acceptance_line, failure_line, refusal_line}

-- no step's name is longer, with its space
pub step_short : (s : Step) → length (spaced (step_text s)) ≤ 6
unfolding ascii
step_short WV1 = omega arith
step_short MSCV1 = omega arith
step_short MSCV2 = omega arith
step_short MSCV3 = omega arith
step_short MSCV4 = omega arith
step_short MSCV5 = omega arith
step_short WBCV1 = omega arith
step_short WBCV2 = omega arith
step_short WBCV3 = omega arith
step_short KGCV1 = omega arith
step_short KGCV2 = omega arith
step_short ACLV3 = omega arith
step_short WB1 = omega arith
step_short WB2 = omega arith
step_short WB3 = omega arith
step_short WB6 = omega arith
step_short RB1 = omega arith
step_short RB2 = omega arith
step_short RB3 = omega arith
step_short KV3 = omega arith
step_short CSRL1 = omega arith

-- the lines
pub failure_text : (s : Step) → ascii "fail" ++ (spaced (step_text s) ++ ascii "\n") ≡ failure_line s
unfolding failure_line ascii
failure_text s = refl

pub refusal_text : (n m : ℕ) → n ≡ m → ascii "refuse " ++ decimal n ++ ascii "\n" ≡ refusal_line m
unfolding refusal_line
refusal_text n m e = rw e

module _ (a : Named) where
  pub acceptance_short : (a.approach ≡ 2 → ⊥) → ascii "accept 1\n" ≡ acceptance_line a
  unfolding acceptance_line
  acceptance_short n = rw (ne_eqb a.approach 2 n)

  pub acceptance_long : (n : ℕ) (t : Bool) → a.approach ≡ 2 → n ≡ a.protection → a.recoverable ≡ t → ascii "accept 2 protection " ++ decimal n ++ ascii (recoverable_text t) ≡ acceptance_line a
  unfolding acceptance_line
  acceptance_long n t e f g = rw (eq-eqb a.approach 2 e, g, ← f)
