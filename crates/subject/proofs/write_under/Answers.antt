use Prim.Native.Nat.{ℕ, ◌≤◌, ◌-◌, ◌%◌}
use mathlib.Core.Path.{◌≡◌, sym, ◌∙◌, ap}
use native.Mathlib.Omega.{arith}
use lib.ListN.{length}
use Rattle.rules.specs.Sizes.{hash_bytes}
use Rattle.subject.specs.Writing.{overwritten, header_of}
use Rattle.subject.proofs.Laws.{over_next, hashes_whole, headed_wrong, headed_short, headed_written, both_clauses}
use borrow.Author.Rules.{rules}
use Rattle.subject.proofs.write_under.Goals as goal

pub returns-then-hashes-size : goal.returns-then-hashes-size
returns-then-hashes-size c = both_clauses (headed_wrong _ _ _ _ (λ e. c.if-hashes-size.true (e ∙ sym c.hashes_length-size.ensures)))

pub returns-then-buffer-total : goal.returns-then-buffer-total
returns-then-buffer-total c = both_clauses (headed_short _ _ _ _ (c.if-hashes-size.false ∙ c.hashes_length-size.ensures) _ c.total_length-total.ensures c.if-buffer-total.true)

pub copy-requires : goal.copy-requires
copy-requires c = omega (arith, ap length c.header_text.ensures, c.total_length-total.ensures, c.if-buffer-total.false)

pub write_hashes-requires : goal.write_hashes-requires
write_hashes-requires c = (ap (λ (n : ℕ). n % hash_bytes) (c.if-hashes-size.false ∙ c.hashes_length-size.ensures) ∙ hashes_whole c.args.certificate, search rules)

pub returns : goal.returns
returns c = let size = c.hashes_length-size in
    let header = header_of c.args.certificate c.args.suite in
    let end : c.total_length-total.result - size.result ≡ length header = omega (arith, c.total_length-total.ensures, size.ensures) in
    let room : length header ≤ length c.args.buffer.now = omega (arith, c.total_length-total.ensures, c.if-buffer-total.false) in
    both_clauses (headed_written _ _ _ _ (c.if-hashes-size.false ∙ size.ensures) _ c.total_length-total.ensures c.if-buffer-total.false _
    (over_next _ _ _ _ _ _ (c.copy.ensures ∙ ap (λ (l : _). overwritten l c.args.buffer.now) c.header_text.ensures) end room c.write_hashes.ensures))
