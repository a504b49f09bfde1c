use Prim.Native.Nat.{◌-◌, ◌*◌}
use mathlib.Core.Path.{◌≡◌}
use lib.ListN.{length, drop}
use Rattle.rules.specs.Acl.{acl_of}
use Rattle.gate_decision.specs.Standings.{ledger_of_tables}
use Rattle.run_decision.specs.Deciding.{ask_sets}
use Rattle.run_decision.specs.Opening.{OpenFrom}
use Rattle.run_requests.specs.Written.{writing}
use Rattle.run_requests.proofs.ask_records.Given as goal

abbrev pub invariant-loop-i : goal.invariant-loop-i
invariant-loop-i l =
    let ask = ask_sets l.plan.km0.now (acl_of l.plan.acl.now) l.plan.certified in
    (length l.buf ≡ length l.initial.buf)
    × OpenFrom l.counts l.counters (l.last - l.loaded) l.plan.rows.now l.plan.certified l.unspent
    × OpenFrom l.counts l.counters (l.from - l.loaded) l.plan.rows.now l.plan.certified l.still
    × (writing ask (ledger_of_tables l.counts l.counters l.loaded l.last) l.buf (l.i * 8) (drop l.i l.rec-items) ≡ writing ask (ledger_of_tables l.initial.counts l.initial.counters l.loaded l.before) l.initial.buf 0 l.rec-items)
