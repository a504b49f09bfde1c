-- A line that does not end among the bytes of the longest line, a delegation's, is bad in each of the four kinds of file.
use Prim.Native.Nat.{ℕ, ◌-◌, ◌≤◌}
use native.Mathlib.Omega.{arith}
use mathlib.Core.Path.{◌≡◌}
use mathlib.Core.Bool.{true}
use lib.ListN.{length, get_or}
use Rattle.rules.specs.Basics.{Bytes}
use Rattle.text_rules.specs.OtherWords.{alone_line_max, delegation_line_max, hint_line_max, policy_line_max}
use Rattle.text_rules.specs.Kinds.{request_kind, requests_kind, bundle_kind, hints_kind}
use Rattle.text_rules.specs.Listing.{as_written, good_in}
use Rattle.text_rules.proofs.Lines.{one_line}
use Rattle.text_rules.proofs.Texts.{request_lawful, requests_lawful, bundle_lawful, hints_lawful}
use Rattle.text_rules.proofs.Longest.{good_short, request_longest, requests_longest, bundle_longest, hints_longest}
use Rattle.text_lexer.specs.Telling.{LineWithin}
use Rattle.text_acl.specs.Answers.{lines_found}
use Rattle.std.specs.Prelude.{Err}
use Rattle.text_acl.specs.declared.TextError.TheVariants.{BadLine}
use Rattle.text_acl.proofs.Reading.{LinesJudged}
use Rattle.text_acl.proofs.Within.{within_bad}
use Rattle.text_states.specs.States.{AnyState, of_request, of_requests, of_bundle, of_hints, kind_from}

weaker : (m : ℕ) (line : Bytes) → m ≤ delegation_line_max → (length line ≤ m) × (one_line line ≡ true) → (length line ≤ delegation_line_max) × (one_line line ≡ true)
weaker m line h p = let l = p.0 in (omega arith, p.1)

any_short : (start s : AnyState) (line : Bytes) → good_in (kind_from start) s line ≡ true → (length line ≤ delegation_line_max) × (one_line line ≡ true)
unfolding good_in as_written
any_short start (of_request t) line e = good_short request_kind delegation_line_max request_lawful request_longest t line e
any_short start (of_requests n) line e = weaker alone_line_max line (omega arith) (good_short requests_kind alone_line_max requests_lawful requests_longest n line e)
any_short start (of_bundle t) line e = weaker policy_line_max line (omega arith) (good_short bundle_kind policy_line_max bundle_lawful bundle_longest t line e)
any_short start (of_hints n) line e = weaker hint_line_max line (omega arith) (good_short hints_kind hint_line_max hints_lawful hints_longest n line e)

pub any_unended : (start : AnyState) (text : Bytes) (at n : ℕ) → LineWithin delegation_line_max text at n → (s : AnyState) (line : ℕ) → LinesJudged (kind_from start) text s at line → (get_or text (n - 1) 0 ≡ 10 → ⊥) → Err (BadLine line) ≡ lines_found (kind_from start) text
any_unended start text at n p = within_bad delegation_line_max text at n p (kind_from start) (any_short start)
