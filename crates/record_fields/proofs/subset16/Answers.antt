use Rattle.record_fields.proofs.Subsets.{subset_and}
use borrow.Author.Rules.{rules}
use Rattle.record_fields.proofs.subset16.Goals as goal

pub returns : goal.returns
returns c = subset_and 16 c.args.a c.args.b (search rules)
