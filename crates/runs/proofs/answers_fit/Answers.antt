use Rattle.runs.proofs.Laws.{room_left, room_short}
use borrow.Author.Rules.{rules}
use Rattle.runs.proofs.answers_fit.Goals as goal

pub returns-then-requests-room : goal.returns-then-requests-room
returns-then-requests-room c = search (rules, room_left)

pub returns : goal.returns
returns c = search (rules, room_short)
