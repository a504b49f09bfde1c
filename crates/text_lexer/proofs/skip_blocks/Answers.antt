use Rattle.std.proofs.Common.{rules, tests}
use Rattle.std.proofs.lemmas.Iterator.{YieldsList-from_slice}
use Rattle.std.proofs.lemmas.Iterator.Search.{position_from_yields_List}
use Rattle.rules.proofs.Rows.{lent_rest_lem}
use Rattle.text_lexer.specs.Telling.{has_newline}
use Rattle.text_lexer.proofs.Laws.{skipped_chunks}
use Rattle.text_lexer.proofs.skip_blocks.Goals as goal

pub returns : goal.returns
returns c =
    skipped_chunks c.args.text.now c.args.at c.as_chunks.result.0.now _ c.position-clear.result c.unwrap_or.result c.requires (lent_rest_lem c.args.text.now c.args.at) c.as_chunks.ensures.front
    (position_from_yields_List has_newline _ _ _ c.position-clear.ensures.ran (YieldsList-from_slice c.as_chunks.result.0.now c.iter.ensures.rest) (λ x b q k. search (rules, tests)))
    c.unwrap_or.ensures
