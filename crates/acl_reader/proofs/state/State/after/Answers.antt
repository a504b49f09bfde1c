use Rattle.rules.specs.Acl.{after_record}
use Rattle.rules.proofs.Choices.{picks}
use Rattle.acl_reader.proofs.Laws.{group_fits, limit_fits, action_fits, limit_next, group_begun_lem, action_added_lem}
use borrow.Author.Rules.{rules}
use Rattle.acl_reader.proofs.state.State.after.Goals as goal

pub after_group-requires : goal.after_group-requires
after_group-requires c = search (rules, group_fits)

pub returns-then-kind-eq-GROUP : goal.returns-then-kind-eq-GROUP
unfolding after_record
returns-then-kind-eq-GROUP c = search (rules, picks, group_begun_lem)

pub after_limit-requires : goal.after_limit-requires
after_limit-requires c = search (rules, limit_fits)

pub returns-then-kind-eq-LIMIT : goal.returns-then-kind-eq-LIMIT
unfolding after_record
returns-then-kind-eq-LIMIT c = search (rules, picks, limit_next)

pub returns-then-kind-eq-BLOBFILE : goal.returns-then-kind-eq-BLOBFILE
unfolding after_record
returns-then-kind-eq-BLOBFILE c = search (rules, picks)

pub after_action-requires : goal.after_action-requires
after_action-requires c = search (rules, action_fits)

pub returns : goal.returns
unfolding after_record
returns c = search (rules, picks, action_added_lem)
