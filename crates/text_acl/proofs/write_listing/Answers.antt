use Rattle.std.proofs.Common.{sym, ◌∙◌}
use Rattle.text_rules.specs.Kinds.{acl_kind}
use Rattle.text_rules.proofs.Readers.{acl_reader}
use Rattle.text_acl.proofs.Writing.{passed_on, write_faulty}
use Rattle.text_acl.proofs.write_listing.Goals as goal

pub returns-in_err-acl_file : goal.returns-in_err-acl_file
returns-in_err-acl_file c = rw (passed_on _ _ c.from_residual.ensures) (write_faulty acl_kind _ _ _ (c.in_err-acl_file.ensures ∙ sym (acl_reader _)))

pub write_sound-requires : goal.write_sound-requires
write_sound-requires c = acl_reader _ ∙ sym c.in_ok-acl_file.ensures
