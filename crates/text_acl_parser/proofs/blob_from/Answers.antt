use Rattle.text_acl_parser.proofs.Laws.{blob_put}
use Rattle.text_acl_parser.proofs.blob_from.Goals as goal

pub returns : goal.returns
returns c = blob_put _ c.args.from c.args.at _ c.blob_token-token.result _ _ _ _ _ _ _ c.blob_keys-keys.ensures c.blob_token-token.ensures c.append-done.ensures c.put_header.ensures
