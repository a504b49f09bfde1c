use Rattle.gate_restrictions.specs.Certifiers.{certifier_kept}
use Rattle.reason_narrowing.proofs.Laws.{group_hint, group_certifier, group_limit, group_action, group_sound}
use Rattle.reason_narrowing.proofs.group_breach.Goals as goal

pub returns-then-not-actions_named-clause-breach : goal.returns-then-not-actions_named-clause-breach
returns-then-not-actions_named-clause-breach c = group_hint _ _ _ _ c.actions_named.ensures c.if-not-actions_named.true

pub returns-then-not-certifier_kept-clause-breach : goal.returns-then-not-certifier_kept-clause-breach
unfolding certifier_kept
returns-then-not-certifier_kept-clause-breach c =
    group_certifier _ _ _ _ c.actions_named.ensures c.if-not-actions_named.false _ c.certifier_kept.ensures c.if-not-certifier_kept.true

pub returns-in-Some-clause-breach : goal.returns-in-Some-clause-breach
unfolding certifier_kept
returns-in-Some-clause-breach c = group_limit _ _ _ _ c.actions_named.ensures c.if-not-actions_named.false _ c.certifier_kept.ensures c.if-not-certifier_kept.false _ c.in-Some.ensures

pub returns-in-Some-first_wider-clause-breach : goal.returns-in-Some-first_wider-clause-breach
unfolding certifier_kept
returns-in-Some-first_wider-clause-breach c = group_action _ _ _ _ c.actions_named.ensures c.if-not-actions_named.false _ c.certifier_kept.ensures c.if-not-certifier_kept.false c.in_default.ensures _ c.in-Some-first_wider.ensures

pub returns-clause-breach : goal.returns-clause-breach
unfolding certifier_kept
returns-clause-breach c = group_sound _ _ _ _ c.actions_named.ensures c.if-not-actions_named.false _ c.certifier_kept.ensures c.if-not-certifier_kept.false c.in_default.ensures c.in_default-first_wider.ensures
