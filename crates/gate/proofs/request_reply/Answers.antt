use Rattle.gate.proofs.Settling.{request_sound, request_refused, request_judged}
use borrow.Author.Rules.{rules}
use Rattle.gate.proofs.request_reply.Goals as goal

pub judge_request-requires : goal.judge_request-requires
judge_request-requires c = search (rules, request_sound)

pub returns-in-Err : goal.returns-in-Err
returns-in-Err c = search (rules, request_refused)

pub returns-in-Ok : goal.returns-in-Ok
returns-in-Ok c = search (rules, request_judged)
