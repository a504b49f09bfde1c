use mathlib.Core.Path.{refl}
use Rattle.rules.specs.Basics.{ascii}
use Rattle.text_rules.specs.Decoding.{has_word, after_word}
use Rattle.text_lexer.specs.Telling.{past_word}
use Rattle.text_parser.proofs.Laws.{bits_told}
use Rattle.text_parser.proofs.policy_bits.Goals as goal

pub returns : goal.returns
unfolding ascii has_word after_word past_word
returns c = bits_told _ c.args.c _ _ _ _ _ _ _ c.requires.1 c.take_word-signing.ensures c.take_word-encryption.ensures c.take_word-csr.ensures refl c.put_number-end.ensures
