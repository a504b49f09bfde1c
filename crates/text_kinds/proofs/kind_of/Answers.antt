use Rattle.text_kinds.proofs.Laws.{kind_acl, kind_request, kind_requests, kind_bundle, kind_hints, no_kind}
use borrow.Author.Rules.{rules}
use Rattle.text_kinds.proofs.kind_of.Goals as goal

pub returns-in-0 : goal.returns-in-0
returns-in-0 c = search (rules, kind_acl)

pub returns-in-1 : goal.returns-in-1
returns-in-1 c = search (rules, kind_request)

pub returns-in-2 : goal.returns-in-2
returns-in-2 c = search (rules, kind_requests)

pub returns-in-3 : goal.returns-in-3
returns-in-3 c = search (rules, kind_bundle)

pub returns-in-4 : goal.returns-in-4
returns-in-4 c = search (rules, kind_hints)

pub returns-in_default : goal.returns-in_default
returns-in_default c = search (rules, no_kind)
