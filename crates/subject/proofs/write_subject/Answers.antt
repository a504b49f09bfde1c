use Rattle.std.specs.Prelude.{Err}
use borrow.Author.Rules.{rules}
use mathlib.Core.Path.{◌≡◌, sym, ◌∙◌, ap}
use Rattle.suites.specs.Calls.{lookup_as}
use Rattle.suites.proofs.Laws.{suite_found, suite_measured}
use Rattle.subject.proofs.Laws.{subject_nowhere, subject_refused, subject_under, both_clauses}
use Rattle.subject.proofs.write_subject.Goals as goal

pub returns-then-not-certificate : goal.returns-then-not-certificate
returns-then-not-certificate c = both_clauses (subject_nowhere _ _ _ _ c.if-not-certificate.true)

pub write_under-requires : goal.write_under-requires
write_under-requires c = (c.if-not-certificate.false, suite_measured _ _ (sym (ap lookup_as c.in_ok-found.was) ∙ c.suite_of.ensures))

pub returns-in_err-found : goal.returns-in_err-found
returns-in_err-found c =
    let e : c.from_residual.result ≡ Err c.in_err-found.field-0.0 = search rules in
    rw e (both_clauses (subject_refused _ _ _ _ _ c.in_err-found.ensures c.if-not-certificate.false))

pub returns : goal.returns
returns c =
    let found = sym (ap lookup_as c.in_ok-found.was) ∙ c.suite_of.ensures in
    both_clauses
    (subject_under _ _ _ _ _ (suite_found _ _ found) c.if-not-certificate.false _ _ (c.write_under.ensures.reply, c.write_under.ensures.bytes))
