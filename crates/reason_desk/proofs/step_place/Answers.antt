use mathlib.Core.Path.{◌∙◌, ap}
use Rattle.reason_steps.specs.Defects.{named}
use Rattle.reason_desk.proofs.Laws.{place_is}
use Rattle.reason_desk.proofs.step_place.Goals as goal

pub returns : goal.returns
returns c =
    place_is _ _ _ _ _ c.step_spot.result c.spot_numbers-spot.result c.from.ensures (c.from-defect.ensures ∙ ap named c.step_defect.ensures) c.spot_numbers-spot.ensures c.step_spot.ensures
