use Rattle.bundle_facts.proofs.Laws.{content_none, content_some}
use borrow.Author.Rules.{rules}
use Rattle.bundle_facts.proofs.facts.Facts.content.Goals as goal

pub returns-in_err-rec : goal.returns-in_err-rec
returns-in_err-rec c = search (rules, content_none)

pub returns : goal.returns
returns c = content_some _ _ c.requires c.in_ok-rec.rec.now c.in_ok-rec.ensures
