-- Words of a line read: from a cursor to the next.
use Rattle.std.specs.Prelude.{◌≡◌, ℕ, ◌+◌, ◌≤◌, Bool, drop, if◌then◌else◌}
use Rattle.rules.specs.Basics.{Bytes}
use Rattle.text_bytes.specs.Putting.{Put}
use Rattle.text_lexer.specs.declared.Cursor.{Cursor}

-- a bit as a number
abbrev pub one : Bool → ℕ
one b = if b then 1 else 0

-- what is left of the text, the flags that were set, at most so much, and how far reading went
pub record Advanced (text rest : Bytes) (flags most far : ℕ) (c d : Cursor) : Type 0 where
  pub place : drop d.at text ≡ rest
  pub flags_are : d.flags ≡ c.flags + flags
  pub few : d.flags ≤ c.flags + most
  pub near : d.at ≤ c.at + far

-- a field of k bytes put into a record from a place on
pub record Field (k : ℕ) (new : Bytes) (at : ℕ) (before after : Bytes) (r : ℕ) : Type 0 where
  pub written : Put new at before after r
  pub ends : r ≡ at + k
