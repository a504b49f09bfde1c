use Rattle.rules.specs.Basics.{ascii}
use Rattle.text_acl_parser.proofs.Laws.{decoded_1, decoded_2, decoded_3, decoded_4, decoded_5, decoded_15}
use Rattle.text_acl_parser.proofs.decode.Goals as goal

pub returns-then-word_stands : goal.returns-then-word_stands
unfolding ascii
returns-then-word_stands c = decoded_1 c.args.line.now _ _ _ _ _ c.word_stands.ensures c.if-word_stands.true c.keyed_from.ensures

pub returns-then-word_stands-2 : goal.returns-then-word_stands-2
unfolding ascii
returns-then-word_stands-2 c = decoded_2 c.args.line.now _ _ _ _ _ c.word_stands.ensures c.if-word_stands.false _ c.word_stands-2.ensures c.if-word_stands-2.true c.limit_from.ensures

pub returns-then-word_stands-3 : goal.returns-then-word_stands-3
unfolding ascii
returns-then-word_stands-3 c = decoded_3 c.args.line.now _ _ _ _ _ c.word_stands.ensures c.if-word_stands.false _ c.word_stands-2.ensures c.if-word_stands-2.false _ c.word_stands-3.ensures c.if-word_stands-3.true c.permissions_from.ensures

pub returns-then-word_stands-4 : goal.returns-then-word_stands-4
unfolding ascii
returns-then-word_stands-4 c = decoded_4 c.args.line.now _ _ _ _ _ c.word_stands.ensures c.if-word_stands.false _ c.word_stands-2.ensures c.if-word_stands-2.false _ c.word_stands-3.ensures c.if-word_stands-3.false _ c.word_stands-4.ensures c.if-word_stands-4.true c.blob_from.ensures

pub returns-then-word_stands-5 : goal.returns-then-word_stands-5
unfolding ascii
returns-then-word_stands-5 c = decoded_5 c.args.line.now _ _ _ _ _ c.word_stands.ensures c.if-word_stands.false _ c.word_stands-2.ensures c.if-word_stands-2.false _ c.word_stands-3.ensures c.if-word_stands-3.false _ c.word_stands-4.ensures c.if-word_stands-4.false _ c.word_stands-5.ensures c.if-word_stands-5.true c.keyed_from-then-word_stands-5.ensures

pub returns : goal.returns
unfolding ascii
returns c = decoded_15 c.args.line.now _ _ _ _ _ c.word_stands.ensures c.if-word_stands.false _ c.word_stands-2.ensures c.if-word_stands-2.false _ c.word_stands-3.ensures c.if-word_stands-3.false _ c.word_stands-4.ensures c.if-word_stands-4.false _ c.word_stands-5.ensures c.if-word_stands-5.false c.file_from.ensures
