use Rattle.rules.specs.Basics.{ascii}
use Rattle.subject.proofs.Laws.{certificate_5}
use borrow.Author.Rules.{rules}
use Rattle.subject.proofs.header_text.Goals as goal

pub returns-in_default : goal.returns-in_default
unfolding ascii
returns-in_default c = rw (certificate_5 c.args.certificate c.requires (search rules) (search rules))
