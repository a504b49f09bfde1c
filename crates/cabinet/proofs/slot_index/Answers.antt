use mathlib.Core.Path.{refl}
use Rattle.cabinet.proofs.Laws.{place_of, place_past}
use borrow.Author.Rules.{rules}
use Rattle.cabinet.proofs.slot_index.Goals as goal

pub returns-then-slot-ge-SLOTS : goal.returns-then-slot-ge-SLOTS
returns-then-slot-ge-SLOTS c = place_past c.args.slot 0 (search rules) refl

pub returns : goal.returns
returns c = place_of c.args.slot c.args.slot (search rules) refl
