use Prim.Native.Nat.{◌+◌, ◌-◌, ◌≤◌}
use lib.ListN.{length}
use Rattle.text_rules.specs.Kinds.{acl_kind}
use Rattle.acl_reader.specs.Places.{acl_state_as}
use Rattle.text_acl.proofs.Reading.{LinesJudged}
use Rattle.text_acl.proofs.judge_lines.Given as goal

abbrev pub invariant-loop-at : goal.invariant-loop-at
invariant-loop-at l = (l.at ≤ length l.text) × (l.line ≤ l.at + 1) × (1 ≤ l.line) × LinesJudged acl_kind l.text (acl_state_as l.place) l.at l.line

abbrev pub decreases-loop-at : goal.decreases-loop-at
decreases-loop-at l = length l.text - l.at
