use mathlib.Core.Path.{sym, ◌∙◌, ap}
use Rattle.text_acl.proofs.Within.{within_ends}
use Rattle.text_states.specs.States.{state_as}
use Rattle.text_files.specs.Entries.{state_or}
use Rattle.text_files.proofs.Laws.{judged_start, bad_line, next_line, missing_line, none_missing}
use Rattle.text_files.proofs.Unended.{any_unended}
use borrow.Author.Rules.{rules}
use Rattle.text_files.proofs.judge_lines.Goals as goal

pub loop-at-init : goal.loop-at-init
loop-at-init c = (search rules, search rules, search rules, search (rules, judged_start))

pub returns-then-text-end-ne10 : goal.returns-then-text-end-ne10
returns-then-text-end-ne10 c = search (rules, any_unended)

pub returns-in_default : goal.returns-in_default
returns-in_default c =
    bad_line _ c.args.text.now (state_as c.loop-at.state) c.loop-at.at c.loop-at.line c.line_within-end.result (within_ends _ _ _ _ c.line_within-end.ensures c.if-text-end-ne10.false) c.loop-at.invariant.3
    (sym (ap state_or c.in_default.is) ∙ c.after_line.ensures)

pub loop-at-preserved : goal.loop-at-preserved
loop-at-preserved c = (
  search rules,
  search rules,
  search rules,
  next_line _ c.args.text.now (state_as c.loop-at.state) c.loop-at.at c.loop-at.line c.line_within-end.result (within_ends _ _ _ _ c.line_within-end.ensures c.if-text-end-ne10.false) c.loop-at.invariant.3
      (state_as c.in-Some.next) (sym (ap state_or c.in-Some.is) ∙ c.after_line.ensures),
)

pub returns-then-missing : goal.returns-then-missing
returns-then-missing c = search (rules, missing_line)

pub returns : goal.returns
returns c = search (rules, none_missing)
