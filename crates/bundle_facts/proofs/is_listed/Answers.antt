use Rattle.std.proofs.Common.{tests}
use Rattle.std.proofs.lemmas.Iterator.{YieldsList-from_slice}
use Rattle.std.proofs.lemmas.Iterator.Search.{any_from_yields_List}
use mathlib.Core.Path.{◌∙◌}
use Rattle.rules.specs.Basics.{records}
use Rattle.rules.specs.Bundle.{lists, listed}
use Rattle.bundle_facts.proofs.Laws.{any_is}
use borrow.Author.Rules.{rules}
use Rattle.bundle_facts.proofs.is_listed.Goals as goal

pub returns : goal.returns
unfolding listed
returns c =
    let p = lists c.args.key.now in
    any_from_yields_List p _ _ _ c.any.ensures.ran (YieldsList-from_slice (records c.args.bundle.now) cc) (λ x b q k. search (rules, tests))
    ∙ any_is p (records c.args.bundle.now)
