-- What the entry points for texts answer, by the kind of file that the number names.
use Prim.Native.Nat.{ℕ}
use mathlib.Core.Path.{◌≡◌, refl}
use mathlib.Core.Option.{Option, none, some}
use borrow.Author.Tests.{ne_eqb}
use Rattle.std.specs.Prelude.{Result, Ok, Err}
use Rattle.rules.specs.Basics.{Bytes}
use Rattle.refusals.specs.declared.Refusal.{Refusal}
use Rattle.refusals.specs.declared.Refusal.TheVariants.{OutOfRange}
use Rattle.text_acl.specs.Answers.{IsListed}
use Rattle.text_acl.specs.declared.TextError.{TextError}
use Rattle.text_acl.specs.declared.TextError.TheVariants.{Refused}
use Rattle.text_files.specs.Entries.{written_as, read_as}
use Rattle.text_files.specs.declared.Kind.{Kind}
use Rattle.text_files.specs.declared.Kind.TheVariants.{Acl, Request, Requests, Bundle, Hints}
use Rattle.text_kinds.specs.Kinds.{text_kind, known_kind, written_for, read_for}

-- the arms of the match
module _ (n : ℕ) where
  pub kind_acl : n ≡ 0 → Ok Acl ≡ known_kind (text_kind n)
  unfolding text_kind
  kind_acl e = rw e refl

  pub kind_request : n ≡ 1 → Ok Request ≡ known_kind (text_kind n)
  unfolding text_kind
  kind_request e = rw e refl

  pub kind_requests : n ≡ 2 → Ok Requests ≡ known_kind (text_kind n)
  unfolding text_kind
  kind_requests e = rw e refl

  pub kind_bundle : n ≡ 3 → Ok Bundle ≡ known_kind (text_kind n)
  unfolding text_kind
  kind_bundle e = rw e refl

  pub kind_hints : n ≡ 4 → Ok Hints ≡ known_kind (text_kind n)
  unfolding text_kind
  kind_hints e = rw e refl

-- no arm of the match was taken
pub no_kind : (n : ℕ) → (n ≡ 0 → ⊥) → (n ≡ 1 → ⊥) → (n ≡ 2 → ⊥) → (n ≡ 3 → ⊥) → (n ≡ 4 → ⊥) → Err OutOfRange ≡ known_kind (text_kind n)
unfolding text_kind
no_kind n a b c d e = rw (ne_eqb n 0 a, ne_eqb n 1 b, ne_eqb n 2 c, ne_eqb n 3 d, ne_eqb n 4 e) refl

-- what a number names, by what the code found
named : (o : Option Kind) (k : Kind) → Ok k ≡ known_kind o → o ≡ some k
named none k e = cc
named (some j) k e = cc

nameless : (o : Option Kind) (r : Refusal) → Err r ≡ known_kind o → (o ≡ none) × (r ≡ OutOfRange)
nameless none r e = let d : r ≡ OutOfRange = cc in (refl, d)
nameless (some j) r e = cc

module _ (o : Option Kind) (given buffer after : Bytes) (x : Result ℕ TextError) where
  module _ (k : Kind) (e : Ok k ≡ known_kind o) where
    pub written_known : IsListed (written_as k given buffer) x after → IsListed (written_for o given buffer) x after
    unfolding written_for
    written_known p = rw (named o k e) p

    pub read_known : IsListed (read_as k given buffer) x after → IsListed (read_for o given buffer) x after
    unfolding read_for
    read_known p = rw (named o k e) p

module _ (o : Option Kind) (given buffer : Bytes) (r : Refusal) (e : Err r ≡ known_kind o) where
  pub written_unknown : IsListed (written_for o given buffer) (Err (Refused r)) buffer
  unfolding written_for
  written_unknown = let f = nameless o r e in rw (f.0, f.1) record { reply = refl; buffer = refl }

  pub read_unknown : IsListed (read_for o given buffer) (Err (Refused r)) buffer
  unfolding read_for
  read_unknown = let f = nameless o r e in rw (f.0, f.1) record { reply = refl; buffer = refl }
