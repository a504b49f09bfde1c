use Rattle.text_bytes.proofs.Laws.{byte_digits}
use borrow.Author.Rules.{rules}
use Rattle.text_bytes.proofs.append_byte.Goals as goal

pub returns : goal.returns
returns c = search (rules, byte_digits)
