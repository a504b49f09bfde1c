use Rattle.rules.specs.Basics.{records}
use Rattle.rules.specs.Acl.{acl_of}
use Rattle.rules.specs.Desk.{approach2, grade_of}
use Rattle.desk.proofs.Laws.{protection_bounds, judged_failed, judged_passed, full_passed, named_from}
use borrow.Author.Rules.{rules}
use Rattle.desk.proofs.judge_acl.Goals as goal

pub protection_of-requires : goal.protection_of-requires
protection_of-requires c = let bounds = protection_bounds _ _ _ c.acl_grade-grade.ensures in search rules

pub returns-in_err-acl_steps : goal.returns-in_err-acl_steps
returns-in_err-acl_steps c =
    let b = records c.args.facts.bundle.now in
    let gs = acl_of c.args.acl.now in
    judged_failed _ _ (approach2 (grade_of b gs)) _ (search rules) (full_passed b gs _ c.acl_grade-grade.ensures c.requires _ c.in_err-acl_steps.ensures)

pub returns : goal.returns
returns c =
    let b = records c.args.facts.bundle.now in
    let gs = acl_of c.args.acl.now in
    let e = c.acl_grade-grade.ensures in
    judged_passed _ (approach2 (grade_of b gs)) _ (full_passed b gs _ e c.requires _ c.in_ok-acl_steps.ensures)
    (named_from b gs _ e c.protection_of.result c.protection_of.ensures)
