use Rattle.rules.specs.Basics.{ascii}
use Rattle.text_parser.proofs.Laws.{told_1, told_2, told_3, told_4, told_5, told_6, told_7, told_8, told_9, told_10}
use Rattle.text_parser.proofs.decode_record.Goals as goal

pub returns-then-word_stands : goal.returns-then-word_stands
unfolding ascii
returns-then-word_stands c = told_1 c.args.line.now _ _ _ _ _ c.word_stands.ensures c.if-word_stands.true c.use_from.ensures

pub returns-then-word_stands-2 : goal.returns-then-word_stands-2
unfolding ascii
returns-then-word_stands-2 c = told_2 c.args.line.now _ _ _ _ _ c.word_stands.ensures c.if-word_stands.false _ c.word_stands-2.ensures c.if-word_stands-2.true c.blob_from.ensures

pub returns-then-word_stands-3 : goal.returns-then-word_stands-3
unfolding ascii
returns-then-word_stands-3 c = told_3 c.args.line.now _ _ _ _ _ c.word_stands.ensures c.if-word_stands.false _ c.word_stands-2.ensures c.if-word_stands-2.false _ c.word_stands-3.ensures c.if-word_stands-3.true c.recovery_from.ensures

pub returns-then-word_stands-4 : goal.returns-then-word_stands-4
unfolding ascii
returns-then-word_stands-4 c = told_4 c.args.line.now _ _ _ _ _ c.word_stands.ensures c.if-word_stands.false _ c.word_stands-2.ensures c.if-word_stands-2.false _ c.word_stands-3.ensures c.if-word_stands-3.false _ c.word_stands-4.ensures c.if-word_stands-4.true c.certificate_from.ensures

pub returns-then-word_stands-5 : goal.returns-then-word_stands-5
unfolding ascii
returns-then-word_stands-5 c = told_5 c.args.line.now _ _ _ _ _ c.word_stands.ensures c.if-word_stands.false _ c.word_stands-2.ensures c.if-word_stands-2.false _ c.word_stands-3.ensures c.if-word_stands-3.false _ c.word_stands-4.ensures c.if-word_stands-4.false _ c.word_stands-5.ensures c.if-word_stands-5.true c.fact_from.ensures

pub returns-then-word_stands-6 : goal.returns-then-word_stands-6
unfolding ascii
returns-then-word_stands-6 c = told_6 c.args.line.now _ _ _ _ _ c.word_stands.ensures c.if-word_stands.false _ c.word_stands-2.ensures c.if-word_stands-2.false _ c.word_stands-3.ensures c.if-word_stands-3.false _ c.word_stands-4.ensures c.if-word_stands-4.false _ c.word_stands-5.ensures c.if-word_stands-5.false _ c.word_stands-6.ensures c.if-word_stands-6.true c.signature_from.ensures

pub returns-then-word_stands-7 : goal.returns-then-word_stands-7
unfolding ascii
returns-then-word_stands-7 c = told_7 c.args.line.now _ _ _ _ _ c.word_stands.ensures c.if-word_stands.false _ c.word_stands-2.ensures c.if-word_stands-2.false _ c.word_stands-3.ensures c.if-word_stands-3.false _ c.word_stands-4.ensures c.if-word_stands-4.false _ c.word_stands-5.ensures c.if-word_stands-5.false _ c.word_stands-6.ensures c.if-word_stands-6.false _ c.word_stands-7.ensures c.if-word_stands-7.true c.policy_from.ensures

pub returns-then-word_stands-8 : goal.returns-then-word_stands-8
unfolding ascii
returns-then-word_stands-8 c = told_8 c.args.line.now _ _ _ _ _ c.word_stands.ensures c.if-word_stands.false _ c.word_stands-2.ensures c.if-word_stands-2.false _ c.word_stands-3.ensures c.if-word_stands-3.false _ c.word_stands-4.ensures c.if-word_stands-4.false _ c.word_stands-5.ensures c.if-word_stands-5.false _ c.word_stands-6.ensures c.if-word_stands-6.false _ c.word_stands-7.ensures c.if-word_stands-7.false _ c.word_stands-8.ensures c.if-word_stands-8.true c.hint_from.ensures

pub returns-then-word_stands-9 : goal.returns-then-word_stands-9
unfolding ascii
returns-then-word_stands-9 c = told_9 c.args.line.now _ _ _ _ _ c.word_stands.ensures c.if-word_stands.false _ c.word_stands-2.ensures c.if-word_stands-2.false _ c.word_stands-3.ensures c.if-word_stands-3.false _ c.word_stands-4.ensures c.if-word_stands-4.false _ c.word_stands-5.ensures c.if-word_stands-5.false _ c.word_stands-6.ensures c.if-word_stands-6.false _ c.word_stands-7.ensures c.if-word_stands-7.false _ c.word_stands-8.ensures c.if-word_stands-8.false _ c.word_stands-9.ensures c.if-word_stands-9.true c.delegation_from.ensures

pub returns : goal.returns
unfolding ascii
returns c = told_10 c.args.line.now _ _ _ _ _ c.word_stands.ensures c.if-word_stands.false _ c.word_stands-2.ensures c.if-word_stands-2.false _ c.word_stands-3.ensures c.if-word_stands-3.false _ c.word_stands-4.ensures c.if-word_stands-4.false _ c.word_stands-5.ensures c.if-word_stands-5.false _ c.word_stands-6.ensures c.if-word_stands-6.false _ c.word_stands-7.ensures c.if-word_stands-7.false _ c.word_stands-8.ensures c.if-word_stands-8.false _ c.word_stands-9.ensures c.if-word_stands-9.false c.decode.ensures
