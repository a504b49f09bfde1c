use Rattle.run_decision.proofs.Deciding.{judged_early, judged_late, judged_sets, admitting_below}
use borrow.Author.Rules.{rules}
use Rattle.run_decision.proofs.Opening.{closes_start, open_timed, closes_then}
use Rattle.run_decision.proofs.plan.Plan.judge_record.Goals as goal

pub returns-then-time-loaded : goal.returns-then-time-loaded
returns-then-time-loaded c = (search (rules, judged_early), tt, search (rules, closes_start))

pub returns-then-time-last : goal.returns-then-time-last
returns-then-time-last c = (search (rules, judged_late), tt, search (rules, closes_start))

pub judge_sets-requires : goal.judge_sets-requires
judge_sets-requires c = (search (rules, admitting_below), search (rules, open_timed))

pub returns : goal.returns
returns c =
    (judged_sets _ _ _ _ _ _ _ _ _ _ _ _ _ _ c.args.self.now.ready c.args.self.now.filled (search rules) c.be64-time.ensures c.if-time-loaded.false c.if-time-last.false c.admitting_set.ensures c.judge_sets.ensures.0, c.judge_sets.ensures.1, search (rules, closes_then))
