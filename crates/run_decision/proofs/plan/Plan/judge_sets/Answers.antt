use mathlib.Core.Path.{◌∙◌}
use Rattle.run_decision.proofs.Deciding.{ready_few}
use Rattle.run_decision.proofs.Laws.{both_within, judged_none, judged_uncertified, judged_found}
use Rattle.run_decision.proofs.Opening.{closes_start, open_first}
use Rattle.run_decision.proofs.plan.Plan.judge_sets.Goals as goal

pub returns-then-admitting-lt1 : goal.returns-then-admitting-lt1
returns-then-admitting-lt1 c = (judged_none _ _ _ _ (ready_few _ _ _ c.args.self.now.ready) c.if-admitting-lt1.true, tt, closes_start _ _)

pub returns-then-both-lt1 : goal.returns-then-both-lt1
returns-then-both-lt1 c =
    let j = judged_uncertified _ _ _ _ (ready_few _ _ _ c.args.self.now.ready) c.requires.0 _ c.if-admitting-lt1.false c.if-both-lt1.true c.lowest.ensures in
    (j.0, j.1, closes_start _ _)

pub first_unspent-first-requires : goal.first_unspent-first-requires
first_unspent-first-requires c = both_within _ _ _ (ready_few _ _ _ c.args.self.now.ready) c.requires.0

pub returns : goal.returns
returns c =
    let j =
    judged_found _ _ _ _ (ready_few _ _ _ c.args.self.now.ready) c.requires.0 c.if-both-lt1.false _ _ _ (open_first _ c.args.admitting _ _ c.requires.1) c.first_unspent-first.ensures.0 c.lowest-2.ensures in
    (c.ok_or.ensures.value ∙ j.0, rw c.ok_or.ensures.value j.1, c.first_unspent-first.ensures.1)
