-- The tool's answers in the definitions' terms.
use Rattle.std.specs.Prelude.{Result, Ok, Err, ℕ, eqb, if◌then◌else◌}
use Rattle.rules.specs.Sizes.{record_bytes}
use Rattle.rules.specs.Basics.{Bytes, kind}
use Rattle.rules.specs.Trim as rules
use Rattle.refusals.specs.Refusals.{refusal_number}
use Rattle.desk_steps.specs.Steps.{step_as}
use Rattle.trimming.specs.declared.Lengths.{Lengths}
use Rattle.trimming.specs.declared.Untrimmed.{Untrimmed}
use Rattle.trimming.specs.declared.Untrimmed.TheVariants.{Failed, Refused}

-- both lengths, a failing step, or the number of a refusal
abbrev pub trim_reply_as : Result Lengths Untrimmed → rules.TrimReply
trim_reply_as (Ok n) = rules.trimmed n.acl n.hints
trim_reply_as (Err (Failed s)) = rules.untrimmed (step_as s)
trim_reply_as (Err (Refused r)) = rules.unread (refusal_number r)

-- "hints naming each kept group": the bytes that a record adds to them
unfoldable pub hint_size : Bytes → ℕ
hint_size r = if eqb (kind r) 1 then record_bytes else 0
