use Rattle.std.proofs.Common.{arith}
use Rattle.text_lexer.proofs.Laws.{hash_read}
use Rattle.text_lexer.proofs.hash_of.Goals as goal

pub returns : goal.returns
returns c = hash_read c.args.text.now c.copy_from_slice.new.self c.loop-k.hash c.min-given.result c.min-given.ensures c.copy_from_slice.ensures.after c.loop-k.invariant.0 (λ j h. c.loop-k.invariant.1 j (omega (arith, h, c.loop-k-test.false)))
