-- An action by its kind, as the code tells kinds apart.
use Rattle.std.proofs.Math.Option.{Option}
use Rattle.rules.specs.Basics.{Bytes}
use Rattle.rules.specs.Acl.{permission_bits, blob_rule_of, archive_rule_of, BlobfileRule, Action, permissions, make_blob, make_archive}
use Rattle.gate_restrictions.specs.declared.Kind.{Kind}
use Rattle.gate_restrictions.specs.declared.Kind.TheVariants.{Permissions, Blob, Archive}

-- what a record says as an action of that kind
abbrev pub action_as : Kind → Bytes → Option BlobfileRule → Action
action_as Permissions r file = permissions (permission_bits r)
action_as Blob r file = make_blob (blob_rule_of r) file
action_as Archive r file = make_archive (archive_rule_of r) file
