use mathlib.Core.Path.{◌≡◌}
use Rattle.rules.specs.Basics.{records}
use Rattle.rules.specs.Acl.{groups_of, acl_of}
use Rattle.rules.specs.Request.{request_of}
use Rattle.std.specs.Iterator.Adapters.{enumerate_source, enumerate_count}
use Rattle.gate_decision.specs.declared.Nearest.TheVariants.{Nothing}
use Rattle.gate_decision.specs.Standings.{judged_from, group_result}
use Rattle.gate_decision.proofs.judge_groups.Given as goal

abbrev pub invariant-loop-place : goal.invariant-loop-place
invariant-loop-place l = record {
  presented : l.certifier.presented.now ≡ l.fn.presented;
  judged :
      judged_from (group_result l.counts l.counters l.elapsed l.km0 (request_of l.fn.presented.req.now)) l.near (enumerate_count l.place-iterator) (groups_of (records (enumerate_source l.place-iterator).0.now))
      ≡ judged_from (group_result l.counts l.counters l.elapsed l.km0 (request_of l.fn.presented.req.now)) Nothing 0 (acl_of l.acl);
}
