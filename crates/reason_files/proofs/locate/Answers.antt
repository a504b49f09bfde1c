use Rattle.reason_files.proofs.Laws.{located_acl, located_request, located_requests, located_bundle, located_hints}
use borrow.Author.Rules.{rules}
use Rattle.reason_files.proofs.locate.Goals as goal

pub returns-in-Acl : goal.returns-in-Acl
returns-in-Acl c = search (rules, located_acl)

pub returns-in-Request : goal.returns-in-Request
returns-in-Request c = search (rules, located_request)

pub returns-in-Requests : goal.returns-in-Requests
returns-in-Requests c = search (rules, located_requests)

pub returns-in-Bundle : goal.returns-in-Bundle
returns-in-Bundle c = search (rules, located_bundle)

pub returns-in-Hints : goal.returns-in-Hints
returns-in-Hints c = search (rules, located_hints)
