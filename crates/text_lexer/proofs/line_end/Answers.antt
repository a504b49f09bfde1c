use Rattle.std.proofs.Common.{rules, tests, sym, ◌∙◌, eqb, drop}
use Rattle.std.proofs.lemmas.Iterator.{YieldsList-from_slice}
use Rattle.std.proofs.lemmas.Iterator.Search.{position_from_yields_List}
use Rattle.rules.proofs.Rows.{lent_rest_lem}
use Rattle.text_lexer.proofs.Laws.{newline_found, newline_none}
use Rattle.text_lexer.proofs.line_end.Goals as goal

pub returns-in-Some : goal.returns-in-Some
returns-in-Some c =
    newline_found c.args.text.now c.args.at c.skip_blocks-from.result c.requires c.skip_blocks-from.ensures c.in-Some.n (sym c.in-Some.is ∙
    position_from_yields_List (λ x. eqb x 10) _ _ _ c.position.ensures.ran (YieldsList-from_slice (drop c.skip_blocks-from.result c.args.text.now) (c.iter.ensures.rest ∙ lent_rest_lem c.args.text.now c.skip_blocks-from.result)) (λ x b q k. search (rules, tests)))

pub returns-in-None : goal.returns-in-None
returns-in-None c =
    newline_none c.args.text.now c.args.at c.skip_blocks-from.result c.requires c.skip_blocks-from.ensures (sym c.in-None.is ∙
    position_from_yields_List (λ x. eqb x 10) _ _ _ c.position.ensures.ran (YieldsList-from_slice (drop c.skip_blocks-from.result c.args.text.now) (c.iter.ensures.rest ∙ lent_rest_lem c.args.text.now c.skip_blocks-from.result)) (λ x b q k. search (rules, tests)))
