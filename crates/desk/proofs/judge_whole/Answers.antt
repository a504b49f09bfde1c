use Rattle.rules.specs.Basics.{records}
use Rattle.rules.specs.Acl.{acl_of}
use Rattle.rules.specs.Desk.{approach2, grade_of}
use Rattle.desk.proofs.Laws.{judged_failed, failed_early}
use borrow.Author.Rules.{rules}
use Rattle.desk.proofs.judge_whole.Goals as goal

pub returns-in_err-bundle_steps : goal.returns-in_err-bundle_steps
returns-in_err-bundle_steps c =
    let b = records c.args.facts.bundle.now in
    let gs = acl_of c.args.acl.now in
    judged_failed _ _ (approach2 (grade_of b gs)) _ (search rules) (failed_early b gs _ c.in_err-bundle_steps.ensures)
