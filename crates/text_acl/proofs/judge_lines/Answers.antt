use Rattle.std.proofs.Common.{sym, ◌∙◌, ap}
use Rattle.text_rules.specs.Kinds.{acl_kind}
use Rattle.acl_reader.specs.Places.{acl_state_as}
use Rattle.text_acl.specs.Reading.{place_as}
use Rattle.text_acl.proofs.Within.{within_ends, acl_unended}
use Rattle.text_acl.proofs.Reading.{judged_none, judged_bad, judged_line, judged_missing, judged_all, end_due, end_sound}
use borrow.Author.Rules.{rules}
use Rattle.text_acl.proofs.judge_lines.Goals as goal

pub loop-at-init : goal.loop-at-init
loop-at-init c = (search rules, search rules, search rules, search (rules, judged_none))

pub returns-then-text-end-ne10 : goal.returns-then-text-end-ne10
returns-then-text-end-ne10 c = search (rules, acl_unended)

pub returns-in_default : goal.returns-in_default
returns-in_default c =
    judged_bad acl_kind c.args.text.now (acl_state_as c.loop-at.place) c.loop-at.at c.loop-at.line c.line_within-end.result (within_ends _ _ _ _ c.line_within-end.ensures c.if-text-end-ne10.false) c.loop-at.invariant.3
    (sym (ap place_as c.in_default.is) ∙ c.after_line.ensures)

pub loop-at-preserved : goal.loop-at-preserved
loop-at-preserved c = (
  search rules,
  search rules,
  search rules,
  judged_line acl_kind c.args.text.now (acl_state_as c.loop-at.place) c.loop-at.at c.loop-at.line c.line_within-end.result (within_ends _ _ _ _ c.line_within-end.ensures c.if-text-end-ne10.false) c.loop-at.invariant.3
      (acl_state_as c.in-Some.next) (sym (ap place_as c.in-Some.is) ∙ c.after_line.ensures),
)

pub returns-then-place : goal.returns-then-place
returns-then-place c = search (rules, judged_missing, end_due)

pub returns : goal.returns
returns c = search (rules, judged_all, end_sound)
