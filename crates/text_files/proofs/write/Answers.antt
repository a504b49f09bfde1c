use Rattle.text_files.proofs.Laws.{written_acl, written_request, written_requests, written_bundle, written_hints}
use borrow.Author.Rules.{rules}
use Rattle.text_files.proofs.write.Goals as goal

pub returns-in-Acl : goal.returns-in-Acl
returns-in-Acl c = search (rules, written_acl)

pub returns-in-Request : goal.returns-in-Request
returns-in-Request c = search (rules, written_request)

pub returns-in-Requests : goal.returns-in-Requests
returns-in-Requests c = search (rules, written_requests)

pub returns-in-Bundle : goal.returns-in-Bundle
returns-in-Bundle c = search (rules, written_bundle)

pub returns-in-Hints : goal.returns-in-Hints
returns-in-Hints c = search (rules, written_hints)
