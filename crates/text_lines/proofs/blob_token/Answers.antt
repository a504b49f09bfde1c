use Rattle.rules.specs.Basics.{ascii}
use Rattle.text_lines.proofs.Laws.{token_held}
use borrow.Author.Rules.{rules}
use Rattle.text_lines.proofs.blob_token.Goals as goal

pub returns : goal.returns
unfolding ascii
returns c = search (rules, token_held)
