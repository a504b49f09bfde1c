use Rattle.rules.specs.Basics.{ascii}
use Rattle.rules.specs.Suites.{suite}
use Rattle.suites.specs.Calls.{called_for}
use Rattle.suites.proofs.Laws.{no_suite}
use borrow.Author.Rules.{rules}
use Rattle.suites.proofs.suite_of.Goals as goal

pub returns-in-1 : goal.returns-in-1
unfolding called_for suite ascii
returns-in-1 c = rw c.in-1.is

pub returns-in-2 : goal.returns-in-2
unfolding called_for suite ascii
returns-in-2 c = rw c.in-2.is

pub returns-in-3 : goal.returns-in-3
unfolding called_for suite ascii
returns-in-3 c = rw c.in-3.is

pub returns-in-4 : goal.returns-in-4
unfolding called_for suite ascii
returns-in-4 c = rw c.in-4.is

pub returns-in-5 : goal.returns-in-5
unfolding called_for suite ascii
returns-in-5 c = rw c.in-5.is

pub returns-in_default : goal.returns-in_default
returns-in_default c = search (rules, no_suite)
