-- The line of a verdict.
use Rattle.std.specs.Prelude.{ℕ, ◌++◌, Bool, true, false, eqb, if◌then◌else◌}
use Prim.Native.String.{String}
use Rattle.rules.specs.Basics.{Bytes, ascii}
use Rattle.rules.specs.Day.{decimal}
use Rattle.rules.specs.Desk as rules
use Rattle.desk.specs.Replies.{Named, DeskReply, accepting, failing, refusing}

-- room for every line
abbrev pub line_bytes : ℕ
line_bytes = 64

-- the name of a step
abbrev pub step_text : rules.Step → String
step_text rules.WV1 = "WV1"
step_text rules.MSCV1 = "MSCV1"
step_text rules.MSCV2 = "MSCV2"
step_text rules.MSCV3 = "MSCV3"
step_text rules.MSCV4 = "MSCV4"
step_text rules.MSCV5 = "MSCV5"
step_text rules.WBCV1 = "WBCV1"
step_text rules.WBCV2 = "WBCV2"
step_text rules.WBCV3 = "WBCV3"
step_text rules.KGCV1 = "KGCV1"
step_text rules.KGCV2 = "KGCV2"
step_text rules.ACLV3 = "ACLV3"
step_text rules.WB1 = "WB1"
step_text rules.WB2 = "WB2"
step_text rules.WB3 = "WB3"
step_text rules.WB6 = "WB6"
step_text rules.RB1 = "RB1"
step_text rules.RB2 = "RB2"
step_text rules.RB3 = "RB3"
step_text rules.KV3 = "KV3"
step_text rules.CSRL1 = "CSRL1"

-- `accept 1`; `accept 2 protection P recoverable yes` or `no`
abbrev pub recoverable_text : Bool → String
recoverable_text true = " recoverable yes\n"
recoverable_text false = " recoverable no\n"

unfoldable pub acceptance_line : Named → Bytes
acceptance_line n =
    if eqb n.approach 2 then ascii "accept 2 protection " ++ decimal n.protection ++ ascii (recoverable_text n.recoverable)
    else ascii "accept 1\n"

-- `fail STEP`
unfoldable pub failure_line : rules.Step → Bytes
failure_line s = ascii "fail " ++ ascii (step_text s) ++ ascii "\n"

-- `refuse N`
unfoldable pub refusal_line : ℕ → Bytes
refusal_line n = ascii "refuse " ++ decimal n ++ ascii "\n"

-- the line
abbrev pub verdict_line : DeskReply → Bytes
verdict_line (accepting n) = acceptance_line n
verdict_line (failing s) = failure_line s
verdict_line (refusing n) = refusal_line n
