use Rattle.std.proofs.Common.{rules, tests, sym, ◌∙◌, ◌+◌}
use Rattle.std.proofs.lemmas.Iterator.{YieldsList-from_slice}
use Rattle.std.proofs.lemmas.Iterator.Search.{position_from_yields_List}
use lib.Dec.{leb}
use lib.ListN.{drop}
use Rattle.text_bytes.proofs.Names.{rest_whole, space_found, space_none}
use Rattle.text_bytes.proofs.word_end.Goals as goal

pub returns-in-Some : goal.returns-in-Some
returns-in-Some c =
    space_found c.args.names.now c.args.at c.requires c.in-Some.n (sym c.in-Some.is ∙
    position_from_yields_List (λ x. leb x 32) _ _ _ c.position.ensures.ran (YieldsList-from_slice (drop (c.args.at + 1) c.args.names.now) (c.iter.ensures.rest ∙ rest_whole c.args.names.now c.args.at c.requires)) (λ x b q k. search (rules, tests)))

pub returns-in-None : goal.returns-in-None
returns-in-None c =
    space_none c.args.names.now c.args.at c.requires (sym c.in-None.is ∙
    position_from_yields_List (λ x. leb x 32) _ _ _ c.position.ensures.ran (YieldsList-from_slice (drop (c.args.at + 1) c.args.names.now) (c.iter.ensures.rest ∙ rest_whole c.args.names.now c.args.at c.requires)) (λ x b q k. search (rules, tests)))
