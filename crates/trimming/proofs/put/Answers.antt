use mathlib.Core.Path.{refl}
use Rattle.trimming.proofs.Laws.{put_copied, put_fewer, put_nothing}
use Rattle.trimming.proofs.put.Goals as goal

pub returns-in-Whole : goal.returns-in-Whole
returns-in-Whole c = put_copied _ _ _ _ _ _ c.in-Some.is c.in-Whole.is c.copy.ensures

pub returns-in-Fewer : goal.returns-in-Fewer
returns-in-Fewer c = put_fewer _ _ _ _ _ _ c.in-Some.is c.in-Fewer.is c.put_fewer.ensures

pub returns-in-None : goal.returns-in-None
returns-in-None c = put_nothing _ _ _ _ _ c.in-None.is refl
