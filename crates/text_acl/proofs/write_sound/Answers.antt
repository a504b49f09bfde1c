use Rattle.text_rules.specs.Kinds.{acl_kind}
use Rattle.text_acl.proofs.Writing.{small_file, write_short, write_whole}
use borrow.Author.Rules.{rules}
use Rattle.text_acl.proofs.write_sound.Goals as goal

pub listing_length-n-requires : goal.listing_length-n-requires
listing_length-n-requires c = search (rules, small_file acl_kind)

pub returns-then-buffer-n : goal.returns-then-buffer-n
returns-then-buffer-n c = search (rules, write_short acl_kind)

pub returns : goal.returns
returns c = search (rules, write_whole acl_kind)
