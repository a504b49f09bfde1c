use Rattle.text_bytes.proofs.Laws.{hash_none, hash_byte, byte_end, put_kept, hash_all}
use borrow.Author.Rules.{rules}
use Rattle.text_bytes.proofs.append_hash.Goals as goal

pub loop-b-init : goal.loop-b-init
loop-b-init c = search (rules, hash_none)

pub loop-b-preserved : goal.loop-b-preserved
loop-b-preserved c = (search (rules, byte_end), search (rules, put_kept), search (rules, hash_byte))

pub returns : goal.returns
returns c = search (rules, hash_all)
