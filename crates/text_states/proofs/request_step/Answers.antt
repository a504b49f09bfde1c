use Rattle.text_states.proofs.Laws.{request_bad, request_files_lem, request_alone}
use borrow.Author.Rules.{rules}
use Rattle.text_states.proofs.request_step.Goals as goal

pub returns-then-not-request_record : goal.returns-then-not-request_record
returns-then-not-request_record c = search (rules, request_bad)

pub returns-then-flag_of : goal.returns-then-flag_of
returns-then-flag_of c = search (rules, request_files_lem)

pub returns : goal.returns
returns c = search (rules, request_alone)
