use Rattle.text_bytes.proofs.Words.{hash_inside, held_hash}
use borrow.Author.Rules.{rules}
use Rattle.text_bytes.proofs.word_and_hash.Goals as goal

pub append_hash-requires : goal.append_hash-requires
append_hash-requires c = search (rules, hash_inside)

pub returns : goal.returns
returns c = search (rules, held_hash)
