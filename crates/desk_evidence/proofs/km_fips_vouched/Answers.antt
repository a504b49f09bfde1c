use Rattle.rules.specs.Desk.{km_fips_vouched}
use Rattle.desk_evidence.proofs.Laws.{vouched_more}
use borrow.Author.Rules.{rules}
use Rattle.desk_evidence.proofs.km_fips_vouched.Goals as goal

pub returns : goal.returns
unfolding km_fips_vouched
returns c = search (rules, vouched_more)
