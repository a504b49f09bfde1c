use native.Mathlib.Omega.{arith}
use mathlib.Core.Path.{ap}
use lib.ListN.{length}
use Rattle.text_acl.proofs.Writing.{records_few, summed_none, summed_line, summed_all}
use borrow.Author.Rules.{rules}
use Rattle.text_acl.proofs.listing_length.Goals as goal

pub loop-rec-init : goal.loop-rec-init
loop-rec-init c = (search rules, search (rules, summed_none))

pub overflow_add-total : goal.overflow_add-total
overflow_add-total c = omega (arith, records_few c.args.acl.now 1344 c.requires, ap length c.records-rec-items.ensures)

pub loop-rec-preserved : goal.loop-rec-preserved
loop-rec-preserved c = (search rules, search (rules, summed_line))

pub returns : goal.returns
returns c = search (rules, summed_all)
