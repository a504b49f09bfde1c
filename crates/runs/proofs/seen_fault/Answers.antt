use Prim.Native.Nat.{◌*◌}
use lib.Dec.{leb}
use Rattle.rules.specs.Sizes.{answer_bytes}
use Rattle.rules.specs.Numbers.{short_buffer}
use Rattle.rules.specs.Basics.{unless}
use Rattle.rules.specs.Runs.{requests_in}
use Rattle.rules.proofs.Faults.{fault_here, fault_later}
use Rattle.files.proofs.Passed.{fault_passed}
use Rattle.runs.proofs.Laws.{over_here, over_later, flag_here, flag_later, first_of_two, last_of_two}
use Rattle.runs.specs.Judged.{seen_fault}
use borrow.Author.Rules.{rules}
use Rattle.runs.proofs.seen_fault.Goals as goal

pub returns-then-not-lengths_fit : goal.returns-then-not-lengths_fit
unfolding seen_fault
returns-then-not-lengths_fit c = search (rules, fault_here)

pub returns-then-asked-gt-CERTIFICATES : goal.returns-then-asked-gt-CERTIFICATES
unfolding seen_fault
returns-then-asked-gt-CERTIFICATES c = search (rules, fault_later, over_here)

pub returns-then-not-asked : goal.returns-then-not-asked
unfolding seen_fault
returns-then-not-asked c = search (rules, fault_later, over_later, flag_here)

pub returns-in_err-acl_records : goal.returns-in_err-acl_records
unfolding seen_fault
returns-in_err-acl_records c =
    let room = unless (leb (requests_in c.args.asked.now.requests.now * answer_bytes) c.args.room) short_buffer in
    search (rules, fault_later, over_later, flag_later, first_of_two _ _ room _ (fault_passed _ _ c.from_residual.ensures) c.in_err-acl_records.ensures)

pub returns : goal.returns
unfolding seen_fault
returns c = search (rules, fault_later, over_later, flag_later, last_of_two _ _ _ c.in_ok-acl_records.ensures c.answers_fit.ensures)
