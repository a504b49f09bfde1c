use Rattle.acl_reader.proofs.Laws.{place_added}
use borrow.Author.Rules.{rules}
use Rattle.acl_reader.proofs.state.State.after_limit.Goals as goal

pub returns : goal.returns
returns c = search (rules, place_added)
