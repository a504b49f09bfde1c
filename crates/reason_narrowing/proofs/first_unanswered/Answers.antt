use mathlib.Core.Path.{◌∙◌, ap}
use mathlib.Core.Bool.{not}
use Rattle.std.proofs.Common.{rules, tests}
use Rattle.std.proofs.lemmas.Iterator.{YieldsList-from_slice}
use Rattle.std.proofs.lemmas.Iterator.Search.{position_from_yields_List}
use Rattle.rules.specs.Basics.{Bytes, records}
use Rattle.rules.specs.Acl.{limit_of, limits_of}
use Rattle.rules.specs.Narrow.{is_answered}
use Rattle.reason_limits.specs.Limits.{first_failing}
use Rattle.reason_narrowing.proofs.Laws.{position_read}
use Rattle.reason_narrowing.proofs.first_unanswered.Goals as goal

pub returns : goal.returns
returns c =
    position_read (is_answered (limits_of (records c.args.new.now))) limit_of c.limits.result.now c.position.result
    (position_from_yields_List (λ (r : Bytes). not (is_answered (limits_of (records c.args.new.now)) (limit_of r))) _ _ c.position.result c.position.ensures.ran (YieldsList-from_slice c.limits.result.now cc) (λ x b q k. search (rules, tests)))
    ∙ ap (first_failing (is_answered (limits_of (records c.args.new.now))) 0) c.limits.ensures
