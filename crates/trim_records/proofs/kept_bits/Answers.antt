use Rattle.trim_records.proofs.Laws.{bits_none, bits_room, bits_skip, bits_more, bits_done}
use borrow.Author.Rules.{rules}
use Rattle.trim_records.proofs.kept_bits.Goals as goal

pub loop-b-init : goal.loop-b-init
loop-b-init c = bits_none _ _

pub with_bit-kept-requires : goal.with_bit-kept-requires
with_bit-kept-requires c = search (rules, bits_room)

pub loop-b-preserved-then-not-bit_kept : goal.loop-b-preserved-then-not-bit_kept
loop-b-preserved-then-not-bit_kept c = search (rules, bits_skip)

pub loop-b-preserved : goal.loop-b-preserved
loop-b-preserved c = search (rules, bits_more)

pub returns : goal.returns
returns c = search (rules, bits_done)
