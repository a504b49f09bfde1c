use mathlib.Core.Path.{refl}
use Rattle.reason_desk.proofs.Laws.{site_acl_length, site_bundle, site_acl, site_policy}
use Rattle.reason_desk.proofs.refusal_site.Goals as goal

pub returns-then-is_length : goal.returns-then-is_length
returns-then-is_length c =
    let b = c.locate-of_bundle in
    let a = c.locate-of_acl in
    site_acl_length _ _ b.result a.result b.ensures a.ensures _ _ _ c.is_length.ensures c.is_length-2.ensures c.if-is_length.true c.site_of.ensures

pub returns-in-Err : goal.returns-in-Err
returns-in-Err c =
    let b = c.locate-of_bundle in
    let a = c.locate-of_acl in
    site_bundle _ _ b.result a.result b.ensures a.ensures _ _ _ c.is_length.ensures c.is_length-2.ensures c.if-is_length.false c.in-Err.place c.in-Err.is c.site_of-in-Err.ensures

pub returns-in-Err-of_acl : goal.returns-in-Err-of_acl
returns-in-Err-of_acl c =
    let b = c.locate-of_bundle in
    let a = c.locate-of_acl in
    site_acl _ _ b.result a.result b.ensures a.ensures _ c.in-Ok.field-0 c.in-Ok.is c.in-Err-of_acl.place c.in-Err-of_acl.is c.site_of-in-Err-of_acl.ensures

pub returns-in-Ok-of_acl : goal.returns-in-Ok-of_acl
returns-in-Ok-of_acl c =
    let b = c.locate-of_bundle in
    let a = c.locate-of_acl in
    site_policy _ _ b.result a.result b.ensures a.ensures _ c.in-Ok.field-0 c.in-Ok.is c.in-Ok-of_acl.field-0 c.in-Ok-of_acl.is _ _ c.policy_index.ensures c.index_number.ensures refl
