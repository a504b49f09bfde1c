use Rattle.c_reasons.proofs.Laws.{file_acl, file_request, file_requests, file_bundle, file_hints, file_unknown}
use borrow.Author.Rules.{rules}
use Rattle.c_reasons.proofs.akubolinfe_locate_file.Goals as goal

pub returns-in-0 : goal.returns-in-0
returns-in-0 c = search (rules, file_acl)

pub returns-in-1 : goal.returns-in-1
returns-in-1 c = search (rules, file_request)

pub returns-in-2 : goal.returns-in-2
returns-in-2 c = search (rules, file_requests)

pub returns-in-3 : goal.returns-in-3
returns-in-3 c = search (rules, file_bundle)

pub returns-in-4 : goal.returns-in-4
returns-in-4 c = search (rules, file_hints)

pub returns-in_default : goal.returns-in_default
returns-in_default c = search (rules, file_unknown)
