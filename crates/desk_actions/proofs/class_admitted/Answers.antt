use Rattle.rules.specs.Desk.{policy_admits}
use Rattle.desk_actions.proofs.class_admitted.Goals as goal

pub returns-in-Harmless : goal.returns-in-Harmless
unfolding policy_admits
returns-in-Harmless c = rw c.in-Harmless.is

pub returns-in-Signature : goal.returns-in-Signature
unfolding policy_admits
returns-in-Signature c = rw c.in-Signature.is

pub returns-in-Encryption : goal.returns-in-Encryption
unfolding policy_admits
returns-in-Encryption c = rw c.in-Encryption.is

pub returns-in-Forbidden : goal.returns-in-Forbidden
unfolding policy_admits
returns-in-Forbidden c = rw c.in-Forbidden.is
