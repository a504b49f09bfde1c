use Rattle.reason_desk.proofs.Laws.{by_reply, files_fit}
use Rattle.reason_desk.proofs.locate_verdict.Goals as goal

pub step_place-requires : goal.step_place-requires
step_place-requires c = files_fit _ _ _ c.assess-verdict.ensures _ c.in-Failed.is

pub returns-in-Accepted : goal.returns-in-Accepted
returns-in-Accepted c = by_reply _ _ _ c.assess-verdict.ensures _ _ c.in-Accepted.is c.accepted.ensures

pub returns-in-Failed : goal.returns-in-Failed
returns-in-Failed c = by_reply _ _ _ c.assess-verdict.ensures _ _ c.in-Failed.is c.step_place.ensures

pub returns-in-Refused : goal.returns-in-Refused
returns-in-Refused c = by_reply _ _ _ c.assess-verdict.ensures _ _ c.in-Refused.is c.refusal_place.ensures
