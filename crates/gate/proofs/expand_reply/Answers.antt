use Rattle.gate.proofs.Replacing.{expand_begun, expand_refused, expand_judged}
use borrow.Author.Rules.{rules}
use Rattle.gate.proofs.expand_reply.Goals as goal

pub judge_request-requires : goal.judge_request-requires
judge_request-requires c = search (rules, expand_begun)

pub returns-in-Err : goal.returns-in-Err
returns-in-Err c = search (rules, expand_refused)

pub returns-in-Ok : goal.returns-in-Ok
returns-in-Ok c = search (rules, expand_judged)
