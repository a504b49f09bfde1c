use mathlib.Core.Path.{◌≡◌, ◌∙◌, ap, sym, refl}
use Prim.Native.Nat.{ℕ}
use mathlib.Core.List.{[]}
use borrow.Author.Rules.{rules}
use borrow.Author.Tests.{ne_eqb}
use Rattle.rules.specs.Basics.{Bytes, ascii}
use Rattle.cli_messages.specs.Words.{refusal_words}
use Rattle.cli_messages.proofs.refusal_words.Goals as goal

of : {t : Bytes} {n : ℕ} (k : ℕ) → n ≡ k → t ≡ refusal_words k → t ≡ refusal_words n
of k e f = f ∙ sym (ap refusal_words e)

no_words : (n : ℕ) → (n ≡ 1 → ⊥) → (n ≡ 2 → ⊥) → (n ≡ 3 → ⊥) → (n ≡ 4 → ⊥) → (n ≡ 5 → ⊥) → (n ≡ 6 → ⊥) → (n ≡ 7 → ⊥) → (n ≡ 8 → ⊥) → (n ≡ 9 → ⊥) → (n ≡ 10 → ⊥) → (n ≡ 11 → ⊥) → (n ≡ 12 → ⊥) → (n ≡ 13 → ⊥) → (n ≡ 14 → ⊥) → (n ≡ 15 → ⊥) → [] ≡ refusal_words n
unfolding refusal_words ascii
no_words n e1 e2 e3 e4 e5 e6 e7 e8 e9 e10 e11 e12 e13 e14 e15 = rw (ne_eqb n 1 e1, ne_eqb n 2 e2, ne_eqb n 3 e3, ne_eqb n 4 e4, ne_eqb n 5 e5, ne_eqb n 6 e6, ne_eqb n 7 e7, ne_eqb n 8 e8, ne_eqb n 9 e9, ne_eqb n 10 e10, ne_eqb n 11 e11, ne_eqb n 12 e12, ne_eqb n 13 e13, ne_eqb n 14 e14, ne_eqb n 15 e15)

pub returns-in-1-clause-words : goal.returns-in-1-clause-words
unfolding ascii refusal_words
returns-in-1-clause-words c = of 1 c.in-1.is refl

pub returns-in-2-clause-words : goal.returns-in-2-clause-words
unfolding ascii refusal_words
returns-in-2-clause-words c = of 2 c.in-2.is refl

pub returns-in-3-clause-words : goal.returns-in-3-clause-words
unfolding ascii refusal_words
returns-in-3-clause-words c = of 3 c.in-3.is refl

pub returns-in-4-clause-words : goal.returns-in-4-clause-words
unfolding ascii refusal_words
returns-in-4-clause-words c = of 4 c.in-4.is refl

pub returns-in-5-clause-words : goal.returns-in-5-clause-words
unfolding ascii refusal_words
returns-in-5-clause-words c = of 5 c.in-5.is refl

pub returns-in-6-clause-words : goal.returns-in-6-clause-words
unfolding ascii refusal_words
returns-in-6-clause-words c = of 6 c.in-6.is refl

pub returns-in-7-clause-words : goal.returns-in-7-clause-words
unfolding ascii refusal_words
returns-in-7-clause-words c = of 7 c.in-7.is refl

pub returns-in-8-clause-words : goal.returns-in-8-clause-words
unfolding ascii refusal_words
returns-in-8-clause-words c = of 8 c.in-8.is refl

pub returns-in-9-clause-words : goal.returns-in-9-clause-words
unfolding ascii refusal_words
returns-in-9-clause-words c = of 9 c.in-9.is refl

pub returns-in-10-clause-words : goal.returns-in-10-clause-words
unfolding ascii refusal_words
returns-in-10-clause-words c = of 10 c.in-10.is refl

pub returns-in-11-clause-words : goal.returns-in-11-clause-words
unfolding ascii refusal_words
returns-in-11-clause-words c = of 11 c.in-11.is refl

pub returns-in-12-clause-words : goal.returns-in-12-clause-words
unfolding ascii refusal_words
returns-in-12-clause-words c = of 12 c.in-12.is refl

pub returns-in-13-clause-words : goal.returns-in-13-clause-words
unfolding ascii refusal_words
returns-in-13-clause-words c = of 13 c.in-13.is refl

pub returns-in-14-clause-words : goal.returns-in-14-clause-words
unfolding ascii refusal_words
returns-in-14-clause-words c = of 14 c.in-14.is refl

pub returns-in-15-clause-words : goal.returns-in-15-clause-words
unfolding ascii refusal_words
returns-in-15-clause-words c = of 15 c.in-15.is refl

pub returns-in_default-clause-words : goal.returns-in_default-clause-words
returns-in_default-clause-words c = search (rules, no_words)
