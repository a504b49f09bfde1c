use Rattle.std.specs.Prelude.{Err}
use mathlib.Core.Path.{◌≡◌, sym, ap}
use Rattle.suites.specs.Calls.{lookup_as}
use Rattle.desk.proofs.Laws.{suite_unknown, suite_sound}
use borrow.Author.Rules.{rules}
use Rattle.desk.proofs.suite_known.Goals as goal

pub returns-in_err-suite_of : goal.returns-in_err-suite_of
returns-in_err-suite_of c =
    let e : c.from_residual.result ≡ Err c.in_err-suite_of.field-0.0 = search rules in
    rw e (suite_unknown _ _ c.policy-policy.ensures _ c.suite_of.ensures _ (sym (ap lookup_as c.in_err-suite_of.was)))

pub returns : goal.returns
returns c = suite_sound _ _ c.policy-policy.ensures _ c.suite_of.ensures _ (sym (ap lookup_as c.in_ok-suite_of.was))
