use Rattle.reason_files.proofs.Laws.{place_long, place_rest}
use borrow.Author.Rules.{rules}
use Rattle.reason_files.proofs.locate_acl.Goals as goal

pub returns-then-not-whole : goal.returns-then-not-whole
returns-then-not-whole c = search (rules, place_long)

pub returns : goal.returns
returns c = search (rules, place_rest)
