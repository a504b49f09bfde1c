use borrow.Author.Tests.{lt-leb}
use mathlib.Core.Bool.{false≢true}
use Rattle.text_lexer.proofs.Laws.{stands_short, stands_differs, stands_ends}
use Rattle.std.proofs.Common.{◌∙◌, sym}
use Rattle.text_lexer.proofs.word_stands.Goals as goal
use Rattle.text_lexer.proofs.word_stands.Goals.{then-n-text, else-n-text}

pub returns-then-same_bytes : goal.returns-then-same_bytes
returns-then-same_bytes c =
    elim c.if-n-text.branch [
      | then-n-text w ↦ stands_ends _ _ w.same_bytes.result w.if-n-text.true w.same_bytes.ensures c.byte_at.result (sym w.value-is ∙ c.if-same_bytes.true) c.byte_at.ensures
      | else-n-text w ↦ absurd (false≢true (sym (lt-leb _ _ w.if-n-text.false) ∙ sym w.value-is ∙ c.if-same_bytes.true))
    ]

pub returns-else-same_bytes : goal.returns-else-same_bytes
returns-else-same_bytes c =
    elim c.if-n-text.branch [
      | then-n-text w ↦ c.if-same_bytes.false ∙ stands_differs _ _ w.same_bytes.result w.if-n-text.true w.same_bytes.ensures (sym w.value-is ∙ c.if-same_bytes.false)
      | else-n-text w ↦ c.if-same_bytes.false ∙ stands_short _ _ w.if-n-text.false
    ]
