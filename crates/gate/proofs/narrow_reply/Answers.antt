use Rattle.gate.proofs.Replacing.{narrow_begun, narrow_refused, narrow_judged}
use borrow.Author.Rules.{rules}
use Rattle.gate.proofs.narrow_reply.Goals as goal

pub judge_request-requires : goal.judge_request-requires
judge_request-requires c = search (rules, narrow_begun)

pub returns-in-Err : goal.returns-in-Err
returns-in-Err c = search (rules, narrow_refused)

pub returns-in-Ok : goal.returns-in-Ok
returns-in-Ok c = search (rules, narrow_judged)
