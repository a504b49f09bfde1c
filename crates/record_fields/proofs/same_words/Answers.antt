use native.Mathlib.Omega.{arith}
use Rattle.record_fields.proofs.Words.{same_words_start, same_words_low, same_words_next, same_words_lower, same_words_done, next_word}
use Rattle.record_fields.proofs.same_words.Goals as goal

pub loop-k-init : goal.loop-k-init
loop-k-init c = record { left = same_words_start _ _ c.requires.0 c.requires.1 _ c.same_word-so_far.ensures; low = same_words_low _ _ c.requires.0 c.requires.1 _ c.same_word-so_far.ensures }

pub loop-k-preserved : goal.loop-k-preserved
loop-k-preserved c = record {
  left = rw (next_word c.loop-k.k) (same_words_next _ _ c.requires.0 c.requires.1 _ _ c.loop-k.invariant.left c.loop-k.invariant.low _ (omega arith) c.same_word-so_far-in-loop-k.ensures);
  low = same_words_lower _ _ c.requires.0 c.requires.1 _ _ c.loop-k.invariant.left c.loop-k.invariant.low _;
}

pub returns : goal.returns
returns c = same_words_done _ _ c.requires.0 c.requires.1 _ _ c.loop-k.invariant.left c.loop-k.invariant.low (omega arith) (omega arith)
