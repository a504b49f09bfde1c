use Prim.Native.Nat.{◌+◌, ◌-◌, ◌≤◌}
use lib.ListN.{length}
use Rattle.text_acl.proofs.Reading.{LinesJudged}
use Rattle.text_states.specs.States.{state_as, kind_from}
use Rattle.text_files.proofs.judge_lines.Given as goal

abbrev pub invariant-loop-at : goal.invariant-loop-at
invariant-loop-at l = (l.at ≤ length l.text) × (l.line ≤ l.at + 1) × (1 ≤ l.line) × LinesJudged (kind_from (state_as l.initial.state)) l.text (state_as l.state) l.at l.line

abbrev pub decreases-loop-at : goal.decreases-loop-at
decreases-loop-at l = length l.text - l.at
