-- Where a fault is, in plain numbers, as the code gives it and as the definitions do. "All that is not named is 0 (input, part, reason) or all ones
-- (record, group, item)."
use Rattle.std.specs.Prelude.{ℕ, eqb, ltb, if◌then◌else◌}
use Rattle.std.proofs.Math.Option.{Option, none, some}
use Rattle.rules.specs.Numbers.{not_narrower, out_of_range, no_group}
use Rattle.rules.specs.Numbers as numbers
use Rattle.rules.specs.Basics.{Bytes}
use Rattle.text_files.specs.declared.Kind.TheVariants as kind
use Rattle.reason_files.specs.Places.{Place, sound, at_length, at_record, at_end, place_in}
use Rattle.reason_inputs.specs.declared.Input.{Input}
use Rattle.reason_inputs.specs.declared.Input.TheVariants as input
use Rattle.reason_limits.specs.declared.SpentBy.{SpentBy}
use Rattle.reason_limits.specs.declared.SpentBy.TheVariants as by
use Rattle.reason_narrowing.specs.declared.Breach.{Breach}
use Rattle.reason_narrowing.specs.declared.Breach.TheVariants as breach
use Rattle.reason_calls.specs.Calls.{CallPlace, permitted, bad_input, denial, not_shown}
use Rattle.c_reasons.specs.declared.HostFilePlace.{HostFilePlace}
use Rattle.c_reasons.specs.declared.HostCallPlace.{HostCallPlace}
use Rattle.c_reasons.specs.declared.Reason.{Reason}

-- "All ones": nothing is named
abbrev pub unnamed : ℕ
unnamed = no_group

-- An index in 32 bits. One that does not fit is not named; no file has so many records.
unfoldable pub index_number : ℕ → ℕ
index_number i = if ltb i unnamed then i else unnamed

abbrev pub index_or_none : Option ℕ → ℕ
index_or_none none = unnamed
index_or_none (some i) = index_number i

-- The place of a file: the refusal; part 1 the length, 2 a record, 3 the end; the record's index, or the number of records.
pub record FileInNumbers : Type 0 where
  pub refusal : ℕ
  pub part : ℕ
  pub index : ℕ

abbrev pub file_numbers : ℕ → ℕ → ℕ → FileInNumbers
file_numbers refusal part index = record { refusal = refusal; part = part; index = index }

abbrev pub host_file_as : HostFilePlace → FileInNumbers
host_file_as p = file_numbers p.refusal p.part p.index

abbrev pub host_file_for : Place → FileInNumbers
host_file_for sound = file_numbers 0 0 unnamed
host_file_for at_length = file_numbers numbers.bad_length 1 unnamed
host_file_for (at_record f i) = file_numbers f 2 (index_number i)
host_file_for (at_end f n) = file_numbers f 3 (index_number n)

-- AKUBOLINFE_TEXT_ACL to AKUBOLINFE_TEXT_HINTS; another number is refused as the functions for texts refuse it
unfoldable pub host_file_of : ℕ → Bytes → FileInNumbers
host_file_of n file =
    if eqb n 0 then host_file_for (place_in kind.Acl file)
    else if eqb n 1 then host_file_for (place_in kind.Request file)
    else if eqb n 2 then host_file_for (place_in kind.Requests file)
    else if eqb n 3 then host_file_for (place_in kind.Bundle file)
    else if eqb n 4 then host_file_for (place_in kind.Hints file)
    else file_numbers out_of_range 0 unnamed

-- "inputs: 0 none, 1 KM0, 2 ACL, 3 request, 4 new ACL, 5 hints"
abbrev pub input_number : Option Input → ℕ
input_number none = 0
input_number (some input.Km0) = 1
input_number (some input.Acl) = 2
input_number (some input.Request) = 3
input_number (some input.NewAcl) = 4
input_number (some input.Hints) = 5

-- What breaks a rule: the reason, and the index of the item.
pub record ReasonInNumbers : Type 0 where
  pub reason : ℕ
  pub item : ℕ

abbrev pub reason_numbers : ℕ → ℕ → ReasonInNumbers
reason_numbers reason item = record { reason = reason; item = item }

abbrev pub reason_as : Reason → ReasonInNumbers
reason_as r = reason_numbers r.reason r.item

-- "reason 5 (a limit is spent)"; "its own count is full: reason 6"
abbrev pub spent_numbers : SpentBy → ReasonInNumbers
spent_numbers by.Nothing = reason_numbers 0 unnamed
spent_numbers (by.Limit i) = reason_numbers 5 (index_number i)
spent_numbers by.OwnCount = reason_numbers 6 unnamed

-- "reason 1, the hint", "reason 2, the certifier", "reason 3, a limit", "reason 4, an action"
abbrev pub breach_numbers : Breach → ReasonInNumbers
breach_numbers breach.Nothing = reason_numbers 0 unnamed
breach_numbers breach.Hint = reason_numbers 1 unnamed
breach_numbers breach.Certifier = reason_numbers 2 unnamed
breach_numbers (breach.Limit i) = reason_numbers 3 (index_number i)
breach_numbers (breach.Action i) = reason_numbers 4 (index_number i)

-- The place of a call.
pub record CallInNumbers : Type 0 where
  pub refusal : ℕ
  pub input : ℕ
  pub part : ℕ
  pub index : ℕ
  pub group : ℕ
  pub reason : ℕ
  pub item : ℕ

abbrev pub host_call_as : HostCallPlace → CallInNumbers
host_call_as p =
    record {
      refusal = p.refusal;
      input = p.input;
      part = p.part;
      index = p.index;
      group = p.group;
      reason = p.reason;
      item = p.item;
    }

-- an input at fault
abbrev pub input_numbers : ℕ → FileInNumbers → CallInNumbers
input_numbers n p = record { refusal = p.refusal; input = n; part = p.part; index = p.index; group = unnamed; reason = 0; item = unnamed }

-- a call that is judged
abbrev pub judged_numbers : ℕ → ℕ → ReasonInNumbers → CallInNumbers
judged_numbers refusal group r = record { refusal = refusal; input = 0; part = 0; index = unnamed; group = group; reason = r.reason; item = r.item }

abbrev pub host_call_for : CallPlace → CallInNumbers
host_call_for permitted = judged_numbers 0 unnamed (reason_numbers 0 unnamed)
host_call_for (bad_input i p) = input_numbers (input_number i) (host_file_for p)
host_call_for (denial n near s) = judged_numbers n (index_or_none near) (spent_numbers s)
host_call_for (not_shown i b) = judged_numbers not_narrower (index_number i) (breach_numbers b)
