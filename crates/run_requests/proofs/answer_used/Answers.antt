use mathlib.Core.Bool.{not}
use mathlib.Core.Path.{sym, ◌∙◌, ap}
use Rattle.run_decision.proofs.Opening.{closes_kept, closes_same}
use Rattle.run_requests.proofs.Granting.{is_laid_out, granted_count, granted_able, answered_permit, answered_denied, answered_malformed}
use borrow.Author.Rules.{rules}
use Rattle.run_requests.proofs.answer_used.Goals as goal

pub returns-then-not-stands_alone : goal.returns-then-not-stands_alone
returns-then-not-stands_alone c =
    let b = c.bad_record.ensures in
    (answered_malformed _ _ _ _ _ _ _ _ _ _ c.args.plan.now.ready _ _ _ _ c.stands_alone.ensures (ap not c.if-not-stands_alone.true) b.0 b.1 b.2, closes_kept _ _ _ b.3)

pub judge_record-chosen-requires : goal.judge_record-chosen-requires
judge_record-chosen-requires c = (search (rules, is_laid_out), search rules)

pub charge_row-requires : goal.charge_row-requires
charge_row-requires c =
    let e = sym c.in-Ok.is ∙ c.judge_record-chosen.ensures.0 in
    let p = c.args.plan.now in
    (rw c.in-Ok.is at c.judge_record-chosen.ensures.1, granted_count _ _ _ _ _ _ _ _ _ _ p.ready _ e, granted_able _ _ _ _ _ _ _ _ _ _ p.ready _ e _ p.filled)

pub permit-requires : goal.permit-requires
permit-requires c = rw c.in-Ok.is at c.judge_record-chosen.ensures.1

pub returns-in-Ok : goal.returns-in-Ok
returns-in-Ok c =
    let e = sym c.in-Ok.is ∙ c.judge_record-chosen.ensures.0 in
    let p = c.args.plan.now in
    let a = c.permit.ensures in (
      answered_permit _ _ _ _ _ _ _ _ _ _ p.ready _ e _ p.filled _ _ _ _ _ _ _ c.stands_alone.ensures (ap not c.if-not-stands_alone.false) c.be64.ensures c.charge_row.ensures.0 c.charge_row.ensures.1 a.0 a.1 a.2,
      closes_same _ _ _ _ a.3 c.judge_record-chosen.ensures.2,
    )

pub denied-requires : goal.denied-requires
denied-requires c = rw c.in-Err.is at c.judge_record-chosen.ensures.1

pub returns-in-Err : goal.returns-in-Err
returns-in-Err c =
    let e = sym c.in-Err.is ∙ c.judge_record-chosen.ensures.0 in
    let a = c.denied.ensures in (
      answered_denied _ _ _ _ _ _ _ _ _ _ c.args.plan.now.ready _ _ _ _ _ e c.stands_alone.ensures (ap not c.if-not-stands_alone.false) a.0 a.1 a.2,
      closes_same _ _ _ _ a.3 c.judge_record-chosen.ensures.2,
    )
