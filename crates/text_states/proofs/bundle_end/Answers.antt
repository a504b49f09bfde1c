use borrow.Author.Rules.{rules}
use Rattle.bundle_reader.proofs.Laws.{end_bad, end_sound}
use Rattle.text_states.proofs.bundle_end.Goals as goal

pub returns-then-last-ne-POLICY_ORDER : goal.returns-then-last-ne-POLICY_ORDER
returns-then-last-ne-POLICY_ORDER c = search (rules, end_bad)

pub returns : goal.returns
returns c = search (rules, end_sound)
