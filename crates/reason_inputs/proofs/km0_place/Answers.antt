use Rattle.reason_inputs.proofs.Laws.{km0_fits, km0_long}
use borrow.Author.Rules.{rules}
use Rattle.reason_inputs.proofs.km0_place.Goals as goal

pub returns-then-km0-eq-HASH : goal.returns-then-km0-eq-HASH
returns-then-km0-eq-HASH c = search (rules, km0_fits)

pub returns : goal.returns
returns c = search (rules, km0_long)
