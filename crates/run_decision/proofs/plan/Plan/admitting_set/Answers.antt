use Rattle.run_decision.proofs.Deciding.{ready_permission, ready_blob_below, ready_use, ready_blob}
use Rattle.run_decision.proofs.plan.Plan.admitting_set.Goals as goal

pub use_set-requires : goal.use_set-requires
use_set-requires c = ready_permission _ c.requires c.if-kind-eq6.true

pub returns-then-kind-eq6 : goal.returns-then-kind-eq6
returns-then-kind-eq6 c = ready_use _ _ _ c.args.self.now.ready _ _ _ c.if-kind-eq6.true (ready_permission _ c.requires c.if-kind-eq6.true) c.use_set.ensures

pub admitting_of-requires : goal.admitting_of-requires
admitting_of-requires c = ready_blob_below _ _ _ c.args.self.now.ready _ _ c.blob_set.ensures

pub returns : goal.returns
returns c = ready_blob _ _ _ c.args.self.now.ready _ _ _ _ c.if-kind-eq6.false c.blob_set.ensures c.admitting_of.ensures
