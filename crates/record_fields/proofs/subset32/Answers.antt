use Rattle.record_fields.proofs.Subsets.{subset_and}
use borrow.Author.Rules.{rules}
use Rattle.record_fields.proofs.subset32.Goals as goal

pub returns : goal.returns
returns c = subset_and 32 c.args.few c.args.many (search rules)
