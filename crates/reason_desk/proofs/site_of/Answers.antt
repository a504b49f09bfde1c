use mathlib.Core.Path.{refl}
use Rattle.reason_desk.proofs.Laws.{site_is, site_numbered}
use Rattle.reason_desk.proofs.site_of.Goals as goal

pub returns-in-Length : goal.returns-in-Length
returns-in-Length c = site_is _ _ _ _ c.in-Length.is refl

pub returns-in-Record : goal.returns-in-Record
returns-in-Record c = site_is _ _ _ _ c.in-Record.is (site_numbered _ _ _ _ c.index_number.ensures)

pub returns-in-End : goal.returns-in-End
returns-in-End c = site_is _ _ _ _ c.in-End.is (site_numbered _ _ _ _ c.index_number-in-End.ensures)
