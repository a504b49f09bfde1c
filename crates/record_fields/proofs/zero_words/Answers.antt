use native.Mathlib.Omega.{arith}
use Rattle.record_fields.proofs.Words.{zero_words_start, zero_words_low, zero_words_next, zero_words_lower, zero_words_done, next_word}
use Rattle.record_fields.proofs.zero_words.Goals as goal

pub loop-k-init : goal.loop-k-init
loop-k-init c = record { left = zero_words_start _ c.requires _ c.zero_word-so_far.ensures; low = zero_words_low _ c.requires _ c.zero_word-so_far.ensures }

pub loop-k-preserved : goal.loop-k-preserved
loop-k-preserved c = record {
  left = rw (next_word c.loop-k.k) (zero_words_next _ c.requires _ _ c.loop-k.invariant.left c.loop-k.invariant.low _ c.zero_word-so_far-in-loop-k.ensures);
  low = zero_words_lower _ c.requires _ _ c.loop-k.invariant.left c.loop-k.invariant.low _;
}

pub returns : goal.returns
returns c = zero_words_done _ c.requires _ _ c.loop-k.invariant.left c.loop-k.invariant.low (omega arith) (omega arith)
