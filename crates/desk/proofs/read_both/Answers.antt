use mathlib.Core.Bool.{not}
use Rattle.std.specs.Prelude.{Err}
use mathlib.Core.Path.{◌≡◌, refl, ap}
use Rattle.desk.proofs.Laws.{bad_lengths, good_lengths, table_kept, table_filled, refused}
use borrow.Author.Rules.{rules}
use Rattle.desk.proofs.read_both.Goals as goal

pub returns-then-not-whole : goal.returns-then-not-whole
returns-then-not-whole c = let w = c.whole.ensures in
    let v = c.whole-2.ensures in
    (bad_lengths _ _ _ _ w v (ap not c.if-not-whole.true), (λ z. refused _ z), table_kept _ _ _ _ w v _ (search rules) (ap not c.if-not-whole.true))

pub returns-in_err-bundle_records : goal.returns-in_err-bundle_records
returns-in_err-bundle_records c =
    let w = c.whole.ensures in
    let v = c.whole-2.ensures in
    let h = ap not c.if-not-whole.false in
    let e : c.from_residual.result ≡ Err c.in_err-bundle_records.field-0.0 = search rules in
    rw e (good_lengths _ _ _ _ w v _ _ _ _ h c.in_err-bundle_records.ensures refl refl refl, (λ z. refused _ z), table_filled _ _ _ _ w v _ c.find_offsets.ensures.1 h)

pub returns-in_err-acl_records : goal.returns-in_err-acl_records
returns-in_err-acl_records c =
    let w = c.whole.ensures in
    let v = c.whole-2.ensures in
    let h = ap not c.if-not-whole.false in
    let e : c.from_residual-in_err-acl_records.result ≡ Err c.in_err-acl_records.field-0.0 = search rules in
    rw e (good_lengths _ _ _ _ w v _ _ _ _ h c.in_ok-bundle_records.ensures c.in_err-acl_records.ensures refl refl, (λ z. refused _ z), table_filled _ _ _ _ w v _ c.find_offsets.ensures.1 h)

pub returns : goal.returns
returns c =
    let w = c.whole.ensures in
    let v = c.whole-2.ensures in
    let h = ap not c.if-not-whole.false in
    (good_lengths _ _ _ _ w v _ _ _ _ h c.in_ok-bundle_records.ensures c.in_ok-acl_records.ensures c.suite_known.ensures refl, (λ z. c.find_offsets.ensures.0), table_filled _ _ _ _ w v _ c.find_offsets.ensures.1 h)
