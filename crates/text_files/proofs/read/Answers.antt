use Rattle.text_files.proofs.Laws.{read_acl_text, read_request_text, read_requests_text, read_bundle_text, read_hints_text}
use borrow.Author.Rules.{rules}
use Rattle.text_files.proofs.read.Goals as goal

pub returns-in-Acl : goal.returns-in-Acl
returns-in-Acl c = search (rules, read_acl_text)

pub returns-in-Request : goal.returns-in-Request
returns-in-Request c = search (rules, read_request_text)

pub returns-in-Requests : goal.returns-in-Requests
returns-in-Requests c = search (rules, read_requests_text)

pub returns-in-Bundle : goal.returns-in-Bundle
returns-in-Bundle c = search (rules, read_bundle_text)

pub returns-in-Hints : goal.returns-in-Hints
returns-in-Hints c = search (rules, read_hints_text)
