use Rattle.record_layout.proofs.Header.{header_bytes_lem}
use borrow.Author.Rules.{rules}
use Rattle.record_layout.proofs.plain_header.Goals as goal

pub returns : goal.returns
returns c =
    header_bytes_lem
    c.args.s.now
    c.args.listed
    c.zero_part.result
    c.low_flags.result
    (search rules)
    (search rules)
    c.fits-s
    (search rules)
    (search rules)
