use Rattle.rules.proofs.Choices.{picks}
use Rattle.rules.specs.Acl.{has_room_under}
use Rattle.acl_reader.proofs.Laws.{room_left}
use borrow.Author.Rules.{rules}
use Rattle.acl_reader.proofs.state.State.has_room.Goals as goal

pub returns-then-kind-eq-GROUP : goal.returns-then-kind-eq-GROUP
unfolding has_room_under
returns-then-kind-eq-GROUP c = search (rules, picks)

pub returns-then-kind-eq-LIMIT : goal.returns-then-kind-eq-LIMIT
unfolding has_room_under
returns-then-kind-eq-LIMIT c = search (rules, picks, room_left)

pub returns-then-kind-eq-BLOBFILE : goal.returns-then-kind-eq-BLOBFILE
unfolding has_room_under
returns-then-kind-eq-BLOBFILE c = search (rules, picks)

pub returns : goal.returns
unfolding has_room_under
returns c = search (rules, picks)
