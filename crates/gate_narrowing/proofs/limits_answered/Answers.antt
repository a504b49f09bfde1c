use mathlib.Core.Path.{◌∙◌, ap}
use lib.ListN.{take}
use lib.Dec.{eqb}
use Rattle.std.proofs.Common.{rules, tests}
use Rattle.std.specs.List.{prefix_len}
use Rattle.std.proofs.lemmas.Iterator.{YieldsList-from_slice}
use Rattle.std.proofs.lemmas.Iterator.Search.{all_from_yields_List, YieldsList-from_take_while}
use Rattle.rules.specs.Basics.{Bytes, all, kind, records}
use Rattle.rules.specs.Acl.{limit_of, limits_of}
use Rattle.rules.specs.Narrow.{is_answered}
use Rattle.acl_groups.proofs.Laws.{first_limits_read}
use Rattle.gate_narrowing.proofs.Laws.{all_read}
use Rattle.gate_narrowing.proofs.limits_answered.Goals as goal

pub returns : goal.returns
returns c =
    all_from_yields_List (λ (r : Bytes). is_answered (limits_of (records c.args.new.now)) (limit_of r)) _ _ _ c.all.ensures.ran
    (YieldsList-from_take_while _ (λ (r : Bytes). eqb (kind r) 2) (YieldsList-from_slice c.records.result.now cc) (cc) (cc) (λ x b q k. search (rules, tests)))
    (λ x b q k. search (rules, tests))
    ∙ all_read (is_answered (limits_of (records c.args.new.now))) limit_of (take (prefix_len (λ (r : Bytes). eqb (kind r) 2) c.records.result.now) c.records.result.now)
    ∙ ap (all (is_answered (limits_of (records c.args.new.now)))) (first_limits_read c.records.result.now ∙ ap limits_of c.records.ensures)
