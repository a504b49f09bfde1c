use Rattle.text_acl.proofs.Reading.{decoded_whole}
use borrow.Author.Rules.{rules}
use Rattle.text_acl.proofs.decoded_record.Goals as goal

pub returns : goal.returns
returns c = decoded_whole _ _ _ _ (search rules) c.decode.ensures
