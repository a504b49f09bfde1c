use borrow.Author.Rules.{rules}
use Rattle.run_decision.proofs.Opening.{open_start}
use Rattle.run_requests.proofs.Opening.{word_within}
use Rattle.run_requests.proofs.run_records.Goals as goal

pub unspent_of-unspent-requires : goal.unspent_of-unspent-requires
unspent_of-unspent-requires c = search (rules, word_within)

pub ask_records-requires : goal.ask_records-requires
ask_records-requires c = (search rules, search (rules, open_start))
